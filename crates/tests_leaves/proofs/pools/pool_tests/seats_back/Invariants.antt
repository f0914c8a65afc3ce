use Rattle.std.proofs.Common.{◌≡◌, ◌+◌, All, vec_len}
use Rattle.pool.specs.Seats.{IsSeatOf}
use Rattle.tests_leaves.proofs.pools.pool_tests.seats_back.Given as goal

abbrev pub invariant-loop-hand : goal.invariant-loop-hand
invariant-loop-hand l = record {
  count : vec_len l.seats + vec_len l.hands ≡ vec_len l.fn.hands;
  before : All (λ h. IsSeatOf l.pool h.seat) l.hands.items;
  after : All (IsSeatOf l.pool) l.seats.items;
}

abbrev pub decreases-loop-hand : goal.decreases-loop-hand
decreases-loop-hand l = vec_len l.hands
