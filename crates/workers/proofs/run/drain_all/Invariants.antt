use Rattle.std.proofs.Common.{◌≡◌, ◌≤◌, vec_capacity, vec_len}
use Rattle.workers.proofs.run.drain_all.Given as goal

abbrev pub invariant-loop : goal.invariant-loop
invariant-loop g l = (vec_len l.back ≡ l.counter) × (l.count ≤ vec_capacity l.back)
