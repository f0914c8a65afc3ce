use Rattle.std.proofs.Common.{[]}
use Rattle.ref_counting.specs.Rights.{Adds}
use Rattle.ref_counting.specs.Uses.{UsesBelow, own_of}
use Rattle.ref_counting.proofs.uses.uses.Given as goal

abbrev pub invariant-loop-number : goal.invariant-loop-number
invariant-loop-number l = Adds (UsesBelow l.code (own_of l.right) l.number) [] l.leads.keys
