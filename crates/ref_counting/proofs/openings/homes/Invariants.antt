use Rattle.ref_counting.specs.Openings.{HomesUpTo}
use Rattle.ref_counting.proofs.openings.homes.Given as goal

abbrev pub invariant-loop-number : goal.invariant-loop-number
invariant-loop-number l = HomesUpTo l.code l.number l.homes
