-- Answers in front of others, and the operands of an operation.
use Rattle.std.specs.Prelude.{◌≡◌, ℕ, ◌+◌, ◌<◌, List, [], ◌∷◌, ◌++◌, length, drop, Option, Some, None, Result, Vec, refl}
use Rattle.std.proofs.Common.{rules, sym, ap, ◌∙◌, get_or}
use Rattle.std.proofs.lemmas.List.{append_assoc, append-nil, drop_more}
use Rattle.values.specs.declared.fault.OpFault.{OpFault}
use Rattle.values.specs.declared.value.Value.{Value}
use Rattle.language.specs.Core as core
use Rattle.flow.specs.declared.expression.Operation.{Operation as Operator}
use Rattle.flow.specs.declared.expression.Expr.{Expr, Operation, the_lemmas}
use Rattle.flow.specs.View.{expr_view, exprs_view, operation_view}
use Rattle.meaning_steps.specs.Environment.{Sight, Come, with_come, worked, worked_all}
use Rattle.meaning_facts.specs.Sighted.{in_front}

pub front_more : (rs : List (Result Value OpFault)) (r : Result Value OpFault) (o : Option (List (Result Value OpFault))) → in_front rs (with_come (Some r) o) ≡ in_front (rs ++ r ∷ []) o
front_more rs r (Some qs) = ap Some (sym (append_assoc rs (r ∷ []) qs))
front_more rs r None = refl

pub front_all : (rs : List (Result Value OpFault)) → in_front rs (Some []) ≡ Some rs
front_all rs = ap Some (append-nil rs)

pub front_none : (rs : List (Result Value OpFault)) (o : Option (List (Result Value OpFault))) → in_front rs (with_come None o) ≡ None
front_none rs o = refl

pub view_operation : {A : Type 0} → (o : Operator A) (v : Vec (Expr A) A) → expr_view (Operation o v) ≡ core.operator (operation_view o) (exprs_view v.items)
view_operation o v = search (rules, the_lemmas)

-- one operand more
pub front_step : {A : Type 0} (g : Sight) (es : List (Expr A)) (i : ℕ) (d : Expr A) (rs : List (Result Value OpFault)) (r : Result Value OpFault) (whole : Option (List (Result Value OpFault)))
    → i < length es → whole ≡ in_front rs (worked_all g (exprs_view (drop i es))) → worked g (expr_view (get_or es i d)) ≡ Some r
    → whole ≡ in_front (rs ++ r ∷ []) (worked_all g (exprs_view (drop (i + 1) es)))
front_step {A} g es i d rs r whole l e q =
    e ∙ ap (λ (z : List (Expr A)). in_front rs (worked_all g (exprs_view z))) (drop_more es i d l)
    ∙ ap (λ (z : Come). in_front rs (with_come z (worked_all g (exprs_view (drop (i + 1) es))))) q
    ∙ front_more rs r (worked_all g (exprs_view (drop (i + 1) es)))
