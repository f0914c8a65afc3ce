use Rattle.std.proofs.Common.{◌≡◌}
use Rattle.work_queue.proofs.kind_queue.KindQueue.clear_run.Given as goal

-- the same waits
abbrev pub invariant-loop-cleared : goal.invariant-loop-cleared
invariant-loop-cleared l = l.self ≡ l.initial.self
