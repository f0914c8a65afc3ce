use Rattle.std.proofs.Common.{map, take}
use Rattle.task_code.specs.View.{name_view}
use Rattle.board_program.specs.Places.{CountsMore}
use Rattle.board_program.proofs.bodies.count_names.Given as goal

abbrev pub invariant-loop-at : goal.invariant-loop-at
invariant-loop-at l = CountsMore l.places (map name_view (take l.at l.names)) l.fn.counts.items l.counts.items
