use Rattle.std.proofs.Common.{map}
use Rattle.flow.specs.View.{parts_view}
use Rattle.task_code.specs.View.{variable_view}
use Rattle.emit_cells.proofs.Selves.{data_two}
use Rattle.emit_cells.proofs.own_cells.add_outer_data.Goals as goal

pub returns : goal.returns
returns g c =
    let A = g.row.A.Denot in
    data_two (parts_view {A = A} c.args.outer.now.parts.items) _ (map variable_view c.args.makes.now.items) (map variable_view c.add_data.new.makes.items) (map variable_view c.add_datum.new.makes.items)
    c.in_ok-add_data.ensures c.in_ok-add_datum.ensures
