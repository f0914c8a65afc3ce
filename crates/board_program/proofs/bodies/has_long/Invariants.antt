use Rattle.std.proofs.Common.{◌≡◌, drop}
use Rattle.std.specs.List.{list_any}
use Rattle.board_program.specs.Tables.{waits_long}
use Rattle.board_program.proofs.bodies.has_long.Given as goal

abbrev pub invariant-loop-number : goal.invariant-loop-number
invariant-loop-number l = list_any (waits_long l.code) (drop l.number-index l.entries) ≡ list_any (waits_long l.code) l.entries
