use Rattle.std.proofs.Common.{◌≡◌, ◌++◌, drop}
use Rattle.std.specs.Prelude.{take}
use Rattle.code_listing.specs.Labels.{infos_of}
use Rattle.code_listing.specs.Order.{body_positions, max_bodies, numbered}
use Rattle.code_listing.proofs.bodies.add_positions.Given as goal

abbrev pub invariant-loop-number : goal.invariant-loop-number
invariant-loop-number l = l.positions.items ++ numbered l.number (drop l.number (take max_bodies (infos_of l.found))) ≡ l.fn.positions.items ++ body_positions (infos_of l.found)
