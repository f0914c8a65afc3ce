use Rattle.std.proofs.Common.{◌≡◌, []}
use Rattle.std.specs.Vec.Iter.{into_iter_items}
use Rattle.board.specs.Sorting.{each_once}
use Rattle.board.proofs.blocked.each_once.Given as goal

abbrev pub invariant-loop-statement : goal.invariant-loop-statement
invariant-loop-statement l = each_once l.found.items (into_iter_items l.statement-iterator) ≡ each_once [] l.fn.statements.items
