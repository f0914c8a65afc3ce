use Rattle.std.proofs.Common.{◌≡◌, map, take}
use Rattle.task_code.specs.View.{need_view}
use Rattle.board_program.specs.Tables.{wanted_in}
use Rattle.board_program.proofs.program.needs_of.Given as goal

abbrev pub invariant-loop-need : goal.invariant-loop-need
invariant-loop-need l = l.wanted.items ≡ map (wanted_in l.code l.body) (map need_view (take l.need-index l.needs))
