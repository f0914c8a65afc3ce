use Rattle.pool.specs.Seats.{IsSeatOf}
use Rattle.bench.proofs.holes.time.Given as goal

abbrev pub invariant-loop-class : goal.invariant-loop-class
invariant-loop-class g l = IsSeatOf l.pool l.seat
