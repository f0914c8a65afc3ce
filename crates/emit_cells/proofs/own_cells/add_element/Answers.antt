use Rattle.std.proofs.Common.{ap}
use Rattle.std.proofs.lemmas.Result.{on_ok_weaker}
use Rattle.flow.specs.View.{cell_view, expr_view, form_view, name_view, parts_view}
use Rattle.flow.proofs.Growing.{grows_none}
use Rattle.emit_cells.proofs.Selves.{own_worked, own_read}
use Rattle.emit_cells.proofs.own_cells.add_element.Goals as goal

pub returns-in-Compute-clause-added : goal.returns-in-Compute-clause-added
returns-in-Compute-clause-added g c fs all passed room inside =
    let A = g.row.A.Denot in
    let s = c.args.standing in
    let cell = c.args.outer.now.cell in
    own_worked fs s.inputs all s.at s.priority (cell_view {A = A} cell) (expr_view {A = A} c.in-Compute.field-0) (form_view {A = A} cell.form) c.args.entries.now.items (ap (form_view {A = A}) c.in-Compute.is)

pub returns-in-Read-clause-added : goal.returns-in-Read-clause-added
returns-in-Read-clause-added g c =
    let A = g.row.A.Denot in
    let s = c.args.standing in
    let o = c.args.outer.now in
    on_ok_weaker c.add_cell.result
    (λ add. λ fs all passed room inside.
    own_read fs s.inputs all s.at s.priority (parts_view {A = A} o.parts.items) (cell_view {A = A} o.cell) (name_view c.in-Read.array) c.in-Read.index c.args.entries.now.items c.add_cell.new.entries.items
    (ap (form_view {A = A}) c.in-Read.is) inside (add fs all passed room.1))
    c.add_cell.ensures.added

pub returns-in-Compute-clause-marks : goal.returns-in-Compute-clause-marks
returns-in-Compute-clause-marks g c = grows_none _ _

pub returns-in-Read-clause-marks : goal.returns-in-Read-clause-marks
returns-in-Read-clause-marks g c = c.add_cell.ensures.marks
