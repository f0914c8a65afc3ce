use Rattle.ref_counting.specs.Makes.{MadeUpTo}
use Rattle.ref_counting.proofs.declarations.declarations.Given as goal

abbrev pub invariant-loop-number : goal.invariant-loop-number
invariant-loop-number l = MadeUpTo l.code l.number l.made.keys
