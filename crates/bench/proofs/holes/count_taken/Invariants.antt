use Rattle.pool.specs.Seats.{IsSeatOf}
use Rattle.bench.proofs.holes.count_taken.Given as goal

abbrev pub invariant-loop-round : goal.invariant-loop-round
invariant-loop-round l = IsSeatOf l.pool l.seat
