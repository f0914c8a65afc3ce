-- How parts of a tree and of a flow are seen.
use Rattle.std.proofs.Common.{rules, arith, ◌≡◌, ◌<◌, ◌++◌, List, [], ◌∷◌, map, length, get_or, Some, None, refl, sym, ap, ◌∙◌}
use Rattle.std.specs.Prelude.{Option, Vec}
use Rattle.language.specs.declared.tree.Prefix.{Prefix}
use Rattle.syntax_trees.specs.declared.tree.Expr.{Expr, out-Expr}
use Rattle.syntax_trees.specs.declared.tree.ExprKind.{the_lemmas}
use Rattle.language.specs.Tree as T
use Rattle.language.specs.Tree.{Node, Expression, Expressions, expression, and_expression, expressions_of}
use Rattle.syntax_trees.specs.View.{expression_view, form_view}
use Rattle.language.specs.Table.{Table}
use Rattle.language.specs.Core as core
use Rattle.language.specs.Core.{none, also}
use Rattle.language.specs.Resolved.{as_operand, computes, one_operand, form_in, form_of, number_of, prefix_operation, sized}
use Rattle.values.specs.Operators as op
use Rattle.flow.specs.declared.name.Name.{Name as Resolved}
use Rattle.flow.specs.declared.cell.CellPart.{CellPart}
use Rattle.flow.specs.declared.expression.Operation.{Operation as Operator'}
use Rattle.flow.specs.declared.expression.Expr.{Expr as Found, Whole, Operation, the_lemmas as flow_lemmas}
use Rattle.flow.specs.View.{name_view, expr_view, exprs_view, operation_view, parts_view}
use Rattle.lowering.specs.View.{Leaves, variable_named}

pub view_expr : (A : Type 0) → (e : Expr A)
    → expression_view e ≡ expression (record { number = (out-Expr A e).number; first = (out-Expr A e).first; to = (out-Expr A e).to }) (form_view (out-Expr A e).kind)
view_expr A e = search (rules, the_lemmas)

pub view_whole : (A : Type 0) → (n : Resolved) → expr_view {A = A} (Whole n) ≡ core.whole (name_view n)
view_whole A n = search (rules, flow_lemmas)

pub view_operation : {A : Type 0} → (o : Operator' A) (v : Vec (Found A) A) → expr_view (Operation o v) ≡ core.operator (operation_view o) (exprs_view v.items)
view_operation o v = search (rules, flow_lemmas)

-- THE ARRAY WHOSE SIZE IS ASKED FOR

abbrev pub sized_by : Option core.Name → core.Exprs
sized_by None = none
sized_by (Some x) = also (core.whole x) none

sized_cases : (t : Table) (nd : Node) (f : T.Form) (es : Expressions) → sized t (and_expression (expression nd f) es) ≡ sized_by (variable_named t f)
sized_cases t nd (T.number z) es = refl
sized_cases t nd (T.text bytes) es = refl
sized_cases t nd (T.truth b) es = refl
sized_cases t nd (T.variable w) es = refl
sized_cases t nd (T.element w i) es = refl
sized_cases t nd (T.call w as') es = refl
sized_cases t nd (T.prefixed p e) es = refl
sized_cases t nd (T.chain os as') es = refl

pub sized_first : (A : Type 0) → (t : Table) (xs : List (Expr A)) (x : Expr A) → 0 < length xs → x ≡ get_or xs 0 x
    → sized t (expressions_of (map expression_view xs)) ≡ sized_by (variable_named t (form_view (out-Expr A x).kind))
sized_first A t [] x below is = absurd (omega (arith, below))
sized_first A t (y ∷ ys) x below is =
    let nd : Node = record { number = (out-Expr A y).number; first = (out-Expr A y).first; to = (out-Expr A y).to } in
    let rest = expressions_of (map expression_view ys) in
    ap (λ e. sized t (and_expression e rest)) (view_expr A y) ∙ sized_cases t nd (form_view (out-Expr A y).kind) rest
    ∙ ap (λ z. sized_by (variable_named t (form_view (out-Expr A z).kind))) (sym is)

-- A PREFIX WITH ITS OPERAND

prefixed_parts : (o : op.Operation) (a : List core.Part × core.Expr) → (computes o (one_operand a)).0 ≡ a.0
prefixed_parts o (ps, e) = refl

prefixed_form : (o : op.Operation) (a : List core.Part × core.Expr) → (computes o (one_operand a)).1 ≡ core.compute (core.operator o (also a.1 none))
prefixed_form o (ps, e) = refl

pub prefixed_found : {A : Type 0} → (t : Table) (p : Prefix) (k : T.Form) (e : Expression) (now after : List (CellPart A)) (one : Found A) (x : core.Expr)
    → k ≡ T.prefixed p e → Leaves now after (expr_view one) (as_operand (number_of e) (form_of t e))
    → x ≡ core.operator (prefix_operation p) (also (expr_view one) none)
    → (parts_view after ≡ parts_view now ++ (form_in t k).0) × (core.compute x ≡ (form_in t k).1)
prefixed_found t p k e now after one x form leaves is =
    let a = as_operand (number_of e) (form_of t e) in (
      leaves.0 ∙ ap (λ ps. parts_view now ++ ps) (sym (ap (λ f. (form_in t f).0) form ∙ prefixed_parts (prefix_operation p) a)),
      ap core.compute (is ∙ ap (λ y. core.operator (prefix_operation p) (also y none)) leaves.1)
          ∙ sym (ap (λ f. (form_in t f).1) form ∙ prefixed_form (prefix_operation p) a),
    )
