use Rattle.std.proofs.Common.{◌≡◌, ap, map, subst, sym, ◌∙◌, Option}
use Rattle.std.proofs.lemmas.Result.{IfOk-weaker}
use Rattle.std.specs.Prelude.{option_map}
use Rattle.language.specs.Core.{Outer}
use Rattle.flow.specs.View.{outer_view}
use Rattle.task_code.specs.View as code_view
use Rattle.code_rules.specs.CodeNames.{over}
use Rattle.code_rules.specs.IsCodeOf.{seen_as}
use Rattle.code_rules.specs.Room.{StepRoom}
use Rattle.emit_cells.specs.PlainNeeds.{need_of, IsReady}
use Rattle.emit_statements.specs.Blocks.{seen_step}
use Rattle.emit_statements.proofs.steps.placed_step.Goals as goal

pub returns-in-Some : goal.returns-in-Some
returns-in-Some g c =
    let A = g.row.A.Denot in
    let k = c.args.inputs in
    let ns = map need_of c.args.needs.now.keys in
    let o = outer_view {A = A} c.in-Some.outer in
    IfOk-weaker c.placed_seen.result _ _
    (λ e placed.
    subst (λ (q : Option Outer). IsReady c.args.needs.now.keys → StepRoom k q → code_view.expr_view e ≡ over k ns (seen_step q)) (sym (ap (option_map (outer_view {A = A})) c.in-Some.is))
    (λ ready room. placed ready room.1 ∙ ap (λ b. over k ns (seen_as b o.cell.node o.cell.form)) c.is_outer_plain.ensures))
    c.placed_seen.ensures
