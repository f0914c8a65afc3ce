use Rattle.flow.specs.View.{form_view}
use Rattle.emit_cells.specs.Chunk.{passed_as}
use Rattle.emit_cells.proofs.Passing.{puts_view}
use Rattle.emit_cells.proofs.cells.pass_cell.Goals as goal

pub returns : goal.returns
returns g c room =
    let A = g.row.A.Denot in
    puts_view c.args.cell.now.node c.in_ok-argument.argument (passed_as c.args.inputs c.args.plain c.args.cell.now.node (form_view {A = A} c.args.cell.now.form)) c.args.passed.now c.insert.new.self
    c.in_ok-insert.ensures.updates.0 (c.in_ok-argument.ensures room)
