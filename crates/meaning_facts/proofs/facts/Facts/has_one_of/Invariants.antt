use Rattle.std.proofs.Common.{◌≡◌, drop}
use Rattle.meaning_facts.specs.Keeping.{has_some}
use Rattle.meaning_facts.proofs.facts.Facts.has_one_of.Given as goal

abbrev pub invariant-loop-kind : goal.invariant-loop-kind
invariant-loop-kind l = has_some l.self l.kinds l.at l.place ≡ has_some l.self (drop l.kind-index l.kinds) l.at l.place
