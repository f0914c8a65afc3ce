use Rattle.std.proofs.Common.{◌≡◌, drop, map}
use Rattle.std.specs.List.{list_any}
use Rattle.task_code.specs.View.{need_view}
use Rattle.board_program.specs.Tables.{is_closed}
use Rattle.board_program.proofs.program.has_closed.Given as goal

abbrev pub invariant-loop-need : goal.invariant-loop-need
invariant-loop-need l = list_any is_closed (map need_view (drop l.need-index l.needs)) ≡ list_any is_closed (map need_view l.needs)
