use Rattle.std.proofs.Common.{◌≡◌, drop}
use Rattle.board_program.specs.Spots.{note}
use Rattle.board_program.proofs.lexical_address.record_body.Given as goal

abbrev pub invariant-loop-at : goal.invariant-loop-at
invariant-loop-at l = note l.number l.body.entries.items l.fn.entry_bodies.items ≡ note l.number (drop l.at l.body.entries.items) l.entry_bodies.items
