use Rattle.std.proofs.Common.{rules, ◌≡◌, ℕ, List, ap, ◌∙◌}
use Rattle.std.proofs.lemmas.Result.{IfOk-from_err, err_from_is_err_and}
use Rattle.syntax_trees.specs.View.{tree_of}
use Rattle.types.specs.declared.typed.NameEntry.{NameEntry}
use Rattle.types.specs.declared.typed.NameMeaning.TheVariants.{Nothing}
use Rattle.types.specs.Typed.{meaning_at, settled_at}
use Rattle.types.specs.Outcomes.{refused, got}
use Rattle.types.specs.Scripts.{checked}
use Rattle.types.proofs.answered.Answered.{accepted_typed}
use Rattle.types.proofs.answered.BreaksScript.{refusal_names}
use Rattle.types.proofs.answered.UnbrokenScript.{script_refused}
use Rattle.types.proofs.lists.Free.{free}
use Rattle.types.proofs.script.check.Goals as goal

pub returns-in_err-parts-clause-untyped : goal.returns-in_err-parts-clause-untyped
returns-in_err-parts-clause-untyped g c =
    let p = err_from_is_err_and c.from_residual-in_err-parts.result c.from_residual-in_err-parts.ensures.1 in
    rw (p.1, p.2) (λ m t. (let is = c.in_err-parts.ensures m in
    let exact : checked (tree_of {A = g.row.A.Denot} c.args.script.now) ≡ refused c.in_err-parts.field-0.0 = search rules in
    script_refused (tree_of {A = g.row.A.Denot} c.args.script.now) c.in_err-parts.field-0.0 exact t))

pub returns-clause-typed : goal.returns-clause-typed
returns-clause-typed g c =
    let exact : checked (tree_of {A = g.row.A.Denot} c.args.script.now) ≡ got (tt {0}) c.parts.new.settled.items = search rules in
    let says : (k : ℕ) → meaning_at c.in_ok-by_number.field-0 k ≡ settled_at c.parts.new.settled.items k Nothing =
    λ k. c.in_ok-by_number.ensures k ∙ ap (λ (s : List NameEntry). settled_at s k Nothing) c.as_slice-3.ensures.value in
    accepted_typed (tree_of {A = g.row.A.Denot} c.args.script.now) c.in_ok-by_number.field-0 c.parts.new.settled.items exact says

pub returns-in_err-parts-clause-names : goal.returns-in_err-parts-clause-names
returns-in_err-parts-clause-names g c =
    let p = err_from_is_err_and c.from_residual-in_err-parts.result c.from_residual-in_err-parts.ensures.1 in
    rw (p.1, p.2) (λ m. (let is = c.in_err-parts.ensures m in
    let exact : checked (tree_of {A = g.row.A.Denot} c.args.script.now) ≡ refused c.in_err-parts.field-0.0 = search rules in
    refusal_names (tree_of {A = g.row.A.Denot} c.args.script.now) c.in_err-parts.field-0.0 exact))

pub returns-in_err-by_number-clause-typed : goal.returns-in_err-by_number-clause-typed
returns-in_err-by_number-clause-typed g c = IfOk-from_err _ _ c.from_residual-in_err-by_number.ensures.0

pub drop-functions-requires-6 : goal.drop-functions-requires-6
drop-functions-requires-6 g c κs = (free κs.0, free κs.1.0)
