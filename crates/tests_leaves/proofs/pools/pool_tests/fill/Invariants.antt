use Rattle.std.proofs.Common.{◌<◌}
use Rattle.pool.specs.Seats.{IsSeatOf}
use Rattle.tests_leaves.proofs.pools.pool_tests.fill.Given as goal

abbrev pub invariant-loop-number : goal.invariant-loop-number
invariant-loop-number l = IsSeatOf l.pool l.seat × (l.count < l.number)
