use Rattle.std.proofs.Common.{[], ◌∷◌, map}
use Rattle.flow.specs.View.{outer_view}
use Rattle.task_code.specs.View.{variable_view}
use Rattle.emit_statements.proofs.Outers.{data_outer}
use Rattle.emit_statements.proofs.insert.add_two_data.Goals as goal

pub returns : goal.returns
returns g c =
    let A = g.row.A.Denot in
    data_outer (outer_view {A = A} c.args.one.now) (outer_view {A = A} c.args.two.now ∷ []) (map variable_view c.args.makes.now.items) (map variable_view c.add_outer_data.new.makes.items) (map variable_view c.add_outer_data-2.new.makes.items)
    c.in_ok-add_outer_data.ensures c.in_ok-add_outer_data-2.ensures
