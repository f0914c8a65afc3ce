use Rattle.std.proofs.Common.{None, map}
use Rattle.std.proofs.lemmas.Result.{on_ok_weaker}
use Rattle.flow.specs.View.{cell_view, parts_view}
use Rattle.task_code.specs.View.{variable_view}
use Rattle.emit_cells.specs.Before.{last_of}
use Rattle.emit_cells.proofs.Selves.{datum_plain, datum_cell}
use Rattle.emit_cells.proofs.own_cells.add_datum.Goals as goal

pub returns-then-is_outer_plain : goal.returns-then-is_outer_plain
returns-then-is_outer_plain g c =
    let A = g.row.A.Denot in
    let o = c.args.outer.now in
    datum_plain (last_of None (parts_view {A = A} o.parts.items)) (cell_view {A = A} o.cell) c.is_outer_plain.result (map variable_view c.args.makes.now.items) c.is_outer_plain.ensures c.if-is_outer_plain.true

pub returns-else-is_outer_plain : goal.returns-else-is_outer_plain
returns-else-is_outer_plain g c =
    let A = g.row.A.Denot in
    let o = c.args.outer.now in
    on_ok_weaker c.add_scalar.result
    (λ e. datum_cell (last_of None (parts_view {A = A} o.parts.items)) (cell_view {A = A} o.cell) c.is_outer_plain.result (map variable_view c.args.makes.now.items) (map variable_view c.add_scalar.new.makes.items) c.is_outer_plain.ensures c.if-is_outer_plain.false e)
    c.add_scalar.ensures
