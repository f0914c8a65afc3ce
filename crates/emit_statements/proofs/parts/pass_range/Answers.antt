use Rattle.std.proofs.Common.{◌∷◌}
use Rattle.std.specs.Prelude.{option_map, option_to_list}
use Rattle.flow.specs.View.{outer_view}
use Rattle.emit_statements.proofs.Outers.{inside_first, inside_rest, passes_outer}
use Rattle.emit_statements.proofs.parts.pass_range.Goals as goal

pub returns : goal.returns
returns g c all room_low room_high room_step inside =
    let A = g.row.A.Denot in
    let low = outer_view {A = A} c.args.range.now.low in
    let high = outer_view {A = A} c.args.range.now.high in
    let steps = option_to_list (option_map (outer_view {A = A}) c.args.range.now.step) in
    let rest = inside_rest all low (high ∷ steps) inside in
    let first = c.pass_outer.new.passed in
    let second = c.pass_outer-2.new.passed in
    let last = c.pass_step.new.passed in
    passes_outer low (high ∷ steps) c.args.passed.now first last (c.in_ok-pass_outer.ensures all room_low (inside_first all low (high ∷ steps) inside))
    (passes_outer high steps first second last (c.in_ok-pass_outer-2.ensures all room_high (inside_first all high steps rest)) (c.in_ok-pass_step.ensures all room_step (inside_rest all high steps rest)))
