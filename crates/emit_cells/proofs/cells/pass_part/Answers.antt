use Rattle.std.proofs.Common.{arith, ap}
use Rattle.std.proofs.lemmas.Grind.{common_steps}
use Rattle.std.proofs.lemmas.Result.{on_ok_weaker}
use Rattle.flow.specs.View.{part_view, cell_view, call_view}
use Rattle.emit_cells.proofs.Passing.{pass_inner, pass_calls}
use Rattle.emit_cells.proofs.cells.pass_part.Goals as goal

pub returns-in-Calls : goal.returns-in-Calls
returns-in-Calls g c all room inside =
    let A = g.row.A.Denot in
    pass_calls (part_view {A = A}) c.args.inputs all c.args.parts.now.items c.args.at c.index.result.now (call_view {A = A} c.in-Calls.field-0) c.args.passed.now
    (grind (arith, common_steps)) (grind (arith, common_steps)) (ap (part_view {A = A}) c.in-Calls.is)

pub returns-in-Inner : goal.returns-in-Inner
returns-in-Inner g c =
    let A = g.row.A.Denot in
    on_ok_weaker c.pass_cell.result
    (λ put. λ all room inside. pass_inner (part_view {A = A}) c.args.inputs all c.args.parts.now.items c.args.at c.index.result.now (cell_view {A = A} c.in-Inner.cell) c.is_plain-plain.result c.args.passed.now c.pass_cell.new.passed
    (grind (arith, common_steps)) (grind (arith, common_steps)) (ap (part_view {A = A}) c.in-Inner.is) room inside c.is_plain-plain.ensures put)
    c.pass_cell.ensures
