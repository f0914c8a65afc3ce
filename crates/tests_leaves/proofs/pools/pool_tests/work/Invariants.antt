use Rattle.pool.specs.Seats.{IsSeatOf}
use Rattle.tests_leaves.proofs.pools.pool_tests.work.Given as goal

abbrev pub invariant-loop-turn : goal.invariant-loop-turn
invariant-loop-turn l = IsSeatOf l.pool l.hand.seat
