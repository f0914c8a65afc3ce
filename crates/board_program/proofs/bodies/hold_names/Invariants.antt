use Rattle.std.proofs.Common.{map, take}
use Rattle.task_code.specs.View.{name_view}
use Rattle.board_program.specs.Tables.{GainsNames}
use Rattle.board_program.proofs.bodies.hold_names.Given as goal

abbrev pub invariant-loop-at : goal.invariant-loop-at
invariant-loop-at l = GainsNames l.code l.body l.reads l.writes (map name_view (take l.at l.names)) l.fn.outer.holds.items l.outer.holds.items
