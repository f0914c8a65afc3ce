use Rattle.std.proofs.Common.{◌≡◌, drop, IsTrue, []}
use Rattle.values.specs.Maps.{rising}
use Rattle.meaning_facts.specs.Store.{elements_from}
use Rattle.meaning_facts.proofs.facts.elements_in.Given as goal

abbrev pub invariant-loop-write : goal.invariant-loop-write
invariant-loop-write l = IsTrue (rising l.elements.items) × (elements_from [] l.writes ≡ elements_from l.elements.items (drop l.write-index l.writes))
