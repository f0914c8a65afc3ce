use Rattle.std.proofs.Common.{◌≡◌, None}
use Rattle.std.specs.Prelude.{replicate}
use Rattle.board_program.proofs.lexical_address.unassigned_bodies.Given as goal

abbrev pub invariant-loop : goal.invariant-loop
invariant-loop l = l.entry_bodies.items ≡ replicate l.counter None
