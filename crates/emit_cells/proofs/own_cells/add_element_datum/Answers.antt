use Rattle.std.proofs.Common.{None, map, ap}
use Rattle.std.proofs.lemmas.Result.{on_ok_weaker}
use Rattle.flow.specs.View.{cell_view, expr_view, form_view, name_view, parts_view}
use Rattle.task_code.specs.View.{variable_view}
use Rattle.emit_cells.specs.Before.{last_of}
use Rattle.emit_cells.proofs.Selves.{datum_worked, datum_read}
use Rattle.emit_cells.proofs.own_cells.add_element_datum.Goals as goal

pub returns-in-Compute : goal.returns-in-Compute
returns-in-Compute g c =
    let A = g.row.A.Denot in
    let o = c.args.outer.now in
    datum_worked (last_of None (parts_view {A = A} o.parts.items)) (cell_view {A = A} o.cell) (expr_view {A = A} c.in-Compute.field-0) (form_view {A = A} o.cell.form) (map variable_view c.args.makes.now.items) (ap (form_view {A = A}) c.in-Compute.is)

pub returns-in-Read : goal.returns-in-Read
returns-in-Read g c =
    let A = g.row.A.Denot in
    let o = c.args.outer.now in
    on_ok_weaker c.add_scalar.result
    (λ e. datum_read (last_of None (parts_view {A = A} o.parts.items)) (cell_view {A = A} o.cell) (name_view c.in-Read.array) c.in-Read.index (map variable_view c.args.makes.now.items) (map variable_view c.add_scalar.new.makes.items) (ap (form_view {A = A}) c.in-Read.is) e)
    c.add_scalar.ensures
