use Rattle.std.proofs.Common.{◌≡◌, drop, map}
use Rattle.std.specs.List.{list_all}
use Rattle.task_code.specs.Shape.{is_plain}
use Rattle.task_code.specs.View.{need_view}
use Rattle.board_program.proofs.program.are_plain.Given as goal

abbrev pub invariant-loop-need : goal.invariant-loop-need
invariant-loop-need l = list_all is_plain (map need_view (drop l.need-index l.needs)) ≡ list_all is_plain (map need_view l.needs)
