use Rattle.std.proofs.Common.{ap, map, refl, ◌∙◌}
use Rattle.std.specs.Prelude.{option_map}
use Rattle.flow.specs.View.{outer_view}
use Rattle.task_code.specs.View as code_view
use Rattle.code_rules.specs.CodeNames.{over}
use Rattle.code_rules.specs.IsCodeOf.{seen_as}
use Rattle.emit_cells.specs.PlainNeeds.{need_of}
use Rattle.emit_statements.specs.Seen.{seen_last}
use Rattle.emit_statements.specs.Blocks.{seen_step}
use Rattle.emit_statements.proofs.Bounds.{ranged_is}
use Rattle.emit_statements.proofs.loops.range_act.Goals as goal

pub returns-clause-does : goal.returns-clause-does
returns-clause-does g c ready room_low room_high room_step =
    let A = g.row.A.Denot in
    let k = c.args.inputs in
    let ns = map need_of c.args.needs.now.keys in
    let low = outer_view {A = A} c.args.range.now.low in
    let high = outer_view {A = A} c.args.range.now.high in
    let step = option_map (outer_view {A = A}) c.args.range.now.step in
    ranged_is k (code_view.loop_view c.args.turns) ns (seen_last low) (seen_last high) (seen_step step) (code_view.expr_view c.in_ok-low.low) (code_view.expr_view c.in_ok-high.high) (code_view.expr_view c.in_ok-step.step)
    (c.in_ok-low.ensures ready room_low.1 ∙ ap (λ b. over k ns (seen_as b low.cell.node low.cell.form)) c.is_outer_plain.ensures)
    (c.in_ok-high.ensures ready room_high.1 ∙ ap (λ b. over k ns (seen_as b high.cell.node high.cell.form)) c.is_outer_plain-2.ensures)
    (c.in_ok-step.ensures ready room_step)

pub returns-clause-unmarked : goal.returns-clause-unmarked
returns-clause-unmarked g c = λ node offset. refl
