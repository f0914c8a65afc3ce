use Rattle.std.proofs.Common.{◌≡◌}
use Rattle.workers.proofs.worker_state.WorkerState.compute_all.Given as goal

abbrev pub invariant-loop : goal.invariant-loop
invariant-loop g l = l.self.offers.pending ≡ l.fn.self.offers.pending
