use Rattle.std.proofs.Common.{◌∷◌}
use Rattle.std.specs.Prelude.{option_map, option_to_list}
use Rattle.flow.specs.View.{outer_view}
use Rattle.flow.proofs.Growing.{grows_both}
use Rattle.emit_statements.proofs.Outers.{added_outer, inside_first, inside_rest}
use Rattle.emit_statements.proofs.parts.add_bounds.Goals as goal

pub returns-clause-added : goal.returns-clause-added
returns-clause-added g c all passed room_low room_high room_step inside =
    let A = g.row.A.Denot in
    let low = outer_view {A = A} c.args.range.now.low in
    let high = outer_view {A = A} c.args.range.now.high in
    let steps = option_to_list (option_map (outer_view {A = A}) c.args.range.now.step) in
    let rest = inside_rest all low (high ∷ steps) inside in
    let first = c.add_outer.new.entries.items in
    let second = c.add_outer-2.new.entries.items in
    let last = c.add_step.new.entries.items in
    added_outer low (high ∷ steps) c.args.entries.now.items first last (c.in_ok-add_outer.ensures.added all passed room_low (inside_first all low (high ∷ steps) inside))
    (added_outer high steps first second last (c.in_ok-add_outer-2.ensures.added all passed room_high (inside_first all high steps rest)) (c.in_ok-add_step.ensures.added all passed room_step (inside_rest all high steps rest)))

pub returns-clause-marks : goal.returns-clause-marks
returns-clause-marks g c = grows_both _ _ (grows_both _ _ c.in_ok-add_outer.ensures.marks c.in_ok-add_outer-2.ensures.marks) c.in_ok-add_step.ensures.marks
