use Rattle.std.proofs.Common.{◌≡◌, ◌+◌, All, vec_len}
use Rattle.pool.specs.Seats.{IsSeatOf}
use Rattle.tests_leaves.proofs.pools.pool_tests.hands_of.Given as goal

abbrev pub invariant-loop-seat : goal.invariant-loop-seat
invariant-loop-seat l = record {
  count : vec_len l.hands + vec_len l.seats ≡ vec_len l.fn.seats;
  before : All (IsSeatOf l.pool) l.seats.items;
  after : All (λ h. IsSeatOf l.pool h.seat) l.hands.items;
}

abbrev pub decreases-loop-seat : goal.decreases-loop-seat
decreases-loop-seat l = vec_len l.seats
