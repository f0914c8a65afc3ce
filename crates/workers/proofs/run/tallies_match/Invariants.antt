use Rattle.std.proofs.Common.{◌≡◌, take}
use Rattle.workers.proofs.run.tallies_match.Given as goal

abbrev pub invariant-loop-worker : goal.invariant-loop-worker
invariant-loop-worker l = take l.worker l.reported ≡ take l.worker l.tallies
