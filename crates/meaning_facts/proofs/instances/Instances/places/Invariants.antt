use Rattle.std.proofs.Common.{◌≡◌, take}
use Rattle.flow.specs.View.{names_view}
use Rattle.meaning_facts.specs.Store.{spots}
use Rattle.meaning_facts.proofs.instances.Instances.places.Given as goal

abbrev pub invariant-loop-name : goal.invariant-loop-name
invariant-loop-name l = l.places.items ≡ spots l.self.all.items l.instance (names_view (take l.name-index l.names))
