use Rattle.std.proofs.Common.{arith, ◌++◌, ◌<◌, ◌≤◌, length, min}
use Rattle.std.proofs.lemmas.Grind.{common_steps}
use Rattle.code_listing.specs.Labels.{infos_of}
use Rattle.code_listing.specs.Order.{body_positions, max_bodies}
use Rattle.code_listing.proofs.Ordering.{position_step, positions_end}
use Rattle.code_listing.proofs.bodies.add_positions.Goals as goal

pub loop-number-preserved : goal.loop-number-preserved
loop-number-preserved c =
    let is = infos_of c.args.found.now in
    let inside : c.loop-number.number < length is = grind (arith, common_steps) in
    let small : c.loop-number.number < max_bodies = grind (arith, common_steps) in
    position_step is max_bodies c.loop-number.number c.loop-number.positions.items c.add_position.new.positions.items (c.args.positions.now.items ++ body_positions is) inside small c.loop-number.invariant c.in_ok-add_position.ensures

pub returns : goal.returns
returns c =
    let is = infos_of c.args.found.now in
    let past : min max_bodies (length is) ≤ c.loop-number.number = grind (arith, common_steps) in
    positions_end is max_bodies c.loop-number.number c.loop-number.positions.items (c.args.positions.now.items ++ body_positions is) past c.loop-number.invariant
