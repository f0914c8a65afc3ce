use Rattle.std.proofs.Common.{◌≡◌, []}
use Rattle.std.specs.Vec.Iter.{into_iter_items}
use Rattle.meaning_outcomes.specs.Lists.{each_once}
use Rattle.paths.specs.Order.{same_fault}
use Rattle.meaning_outcomes.proofs.lists.each_fault_once.Given as goal

abbrev pub invariant-loop-fault : goal.invariant-loop-fault
invariant-loop-fault l = each_once same_fault l.found.items (into_iter_items l.fault-iterator) ≡ each_once same_fault [] l.fn.faults.items
