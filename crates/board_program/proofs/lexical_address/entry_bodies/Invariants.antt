use Rattle.std.proofs.Common.{◌≡◌, drop}
use Rattle.board_program.specs.Spots.{homes_of, noted}
use Rattle.board_program.proofs.lexical_address.entry_bodies.Given as goal

abbrev pub invariant-loop-number : goal.invariant-loop-number
invariant-loop-number l = homes_of l.code ≡ noted l.number (drop l.number l.code.bodies) l.entry_bodies.items
