use Rattle.std.proofs.Common.{◌≡◌, ◌+◌, All, vec_len}
use Rattle.pool.specs.Seats.{view, seat_pool}
use Rattle.pool.specs.Views.{beginner}
use Rattle.workers.proofs.run.new_idle_workers.Given as goal

abbrev pub invariant-loop-seat : goal.invariant-loop-seat
invariant-loop-seat g l = record {
  count : l.worker + vec_len l.seats ≡ vec_len l.fn.seats;
  parts : (l.events.parts ≡ vec_len l.seats) × (l.enabled.parts ≡ vec_len l.seats);
  amounts : (l.events.amount ≡ 0) × (l.enabled.amount ≡ 0);
  each : All (λ s. (seat_pool s ≡ g.J.RunParams.pool) × (view s ≡ beginner 1)) l.seats.items;
}

abbrev pub decreases-loop-seat : goal.decreases-loop-seat
decreases-loop-seat g l = vec_len l.seats
