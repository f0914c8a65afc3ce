use Rattle.std.proofs.Common.{ap}
use Rattle.std.proofs.lemmas.Result.{on_ok_weaker}
use Rattle.flow.specs.View.{cell_view, form_view, name_view, parts_view}
use Rattle.emit_statements.proofs.Owns.{read_passes}
use Rattle.emit_statements.proofs.own.pass_element.Goals as goal

pub returns-in-Read : goal.returns-in-Read
returns-in-Read g c =
    let A = g.row.A.Denot in
    let o = c.args.outer.now in
    on_ok_weaker c.pass_cell.result
    (λ put. λ all room inside.
    read_passes c.args.inputs all (parts_view {A = A} o.parts.items) (cell_view {A = A} o.cell) (name_view c.in-Read.array) c.in-Read.index c.args.passed.now c.pass_cell.new.passed (ap (form_view {A = A}) c.in-Read.is) inside (put room.1))
    c.pass_cell.ensures
