use Rattle.meaning_round.proofs.Called.{AreWaking}
use Rattle.meaning_round.proofs.worklist.wake_all.Given as goal

abbrev pub invariant-loop-number : goal.invariant-loop-number
invariant-loop-number l = AreWaking l.numbers l.number-iterator l.fn.asleep l.asleep l.fn.awake.items l.awake.items
