use Rattle.ref_counting.specs.Openings.{OpeningsUpTo}
use Rattle.ref_counting.proofs.openings.openings.Given as goal

abbrev pub invariant-loop-number : goal.invariant-loop-number
invariant-loop-number l = OpeningsUpTo l.code l.number l.openings
