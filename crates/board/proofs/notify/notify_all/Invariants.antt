use Rattle.std.proofs.Common.{take}
use Rattle.board.specs.Telling.{HaveHeard}
use Rattle.board.proofs.notify.notify_all.Given as goal

abbrev pub invariant-loop-input : goal.invariant-loop-input
invariant-loop-input l = HaveHeard (take l.input-index l.known) l.initial.items l.items
