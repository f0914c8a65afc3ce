use Rattle.std.proofs.Common.{◌≡◌, ◌++◌, ◌-◌}
use Rattle.meaning_round.specs.Hearing.{counted, numbers_of}
use Rattle.meaning_round.proofs.worklist.Worklist.drain_ready.Given as goal

abbrev pub invariant-loop-number : goal.invariant-loop-number
invariant-loop-number l = record {
  awake : l.self.awake.items ++ counted l.number (l.count - l.number) ≡ numbers_of l.fn.self l.count;
  asleep : l.self.asleep ≡ l.fn.self.asleep;
  called : l.self.called ≡ l.fn.self.called;
}
