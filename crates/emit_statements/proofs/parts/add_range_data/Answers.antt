use Rattle.std.proofs.Common.{◌∷◌, map}
use Rattle.std.specs.Prelude.{option_map, option_to_list}
use Rattle.flow.specs.View.{outer_view}
use Rattle.task_code.specs.View.{variable_view}
use Rattle.emit_statements.proofs.Outers.{data_outer}
use Rattle.emit_statements.proofs.parts.add_range_data.Goals as goal

pub returns : goal.returns
returns g c =
    let A = g.row.A.Denot in
    let low = outer_view {A = A} c.args.range.now.low in
    let high = outer_view {A = A} c.args.range.now.high in
    let steps = option_to_list (option_map (outer_view {A = A}) c.args.range.now.step) in
    let first = map variable_view c.add_outer_data.new.makes.items in
    let second = map variable_view c.add_outer_data-2.new.makes.items in
    let last = map variable_view c.add_step_data.new.makes.items in
    data_outer low (high ∷ steps) (map variable_view c.args.makes.now.items) first last c.in_ok-add_outer_data.ensures
    (data_outer high steps first second last c.in_ok-add_outer_data-2.ensures c.in_ok-add_step_data.ensures)
