use Rattle.std.proofs.Common.{◌≡◌, []}
use Rattle.std.specs.Vec.Iter.{into_iter_items}
use Rattle.meaning_outcomes.specs.Lists.{each_once}
use Rattle.paths.specs.Order.{same_statement}
use Rattle.meaning_outcomes.proofs.lists.each_once.Given as goal

abbrev pub invariant-loop-statement : goal.invariant-loop-statement
invariant-loop-statement l = each_once same_statement l.found.items (into_iter_items l.statement-iterator) ≡ each_once same_statement [] l.fn.statements.items
