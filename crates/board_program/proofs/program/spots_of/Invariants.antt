use Rattle.std.proofs.Common.{◌≡◌, ◌++◌, map, drop}
use Rattle.task_code.specs.View.{name_view}
use Rattle.board_program.specs.Tables.{spots_in}
use Rattle.board_program.proofs.program.spots_of.Given as goal

abbrev pub invariant-loop-at : goal.invariant-loop-at
invariant-loop-at l = spots_in l.code l.body (map name_view l.names) ≡ l.spots.items ++ spots_in l.code l.body (map name_view (drop l.at l.names))
