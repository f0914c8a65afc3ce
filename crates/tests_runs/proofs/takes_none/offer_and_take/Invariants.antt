use Rattle.std.proofs.Common.{◌<◌}
use Rattle.pool.specs.Seats.{IsSeatOf}
use Rattle.tests_runs.proofs.takes_none.offer_and_take.Given as goal

abbrev pub invariant-loop-number : goal.invariant-loop-number
invariant-loop-number l = record {
  seat : IsSeatOf l.pool l.seat;
  counted : l.offered < l.number;
}
