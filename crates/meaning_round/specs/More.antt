-- More is known, for the same instances and further ones.
use Rattle.std.specs.Prelude.{◌≡◌, ℕ, ◌<◌, true, length, is_some, Some}
use Rattle.std.specs.HashSet.{contains}
use Rattle.values.specs.declared.key.Key.{Key}
use Rattle.values.specs.declared.value.Value.{Value}
use Rattle.language.specs.Core.{Name}
use Rattle.meaning_facts.specs.declared.facts.FaultFact.{FaultFact}
use Rattle.meaning_facts.specs.declared.facts.Place.{Place}
use Rattle.meaning_facts.specs.declared.fact_base.FactBase.{FactBase}
use Rattle.meaning_facts.specs.Keeping.{same_fault}
use Rattle.meaning_facts.specs.Sighted.{scalar_at}
use Rattle.meaning_facts.specs.Store.{value_at, line_at, writes_at, is_written_in, spot}
use Rattle.meaning_invariants.specs.Held.{Grows}

-- names resolve to the same places, and what was known is still known; a scalar without a new value is the same
pub record KnowsMore (l m : FactBase) : Type 0 where
  pub grows : Grows l.instances.all.items m.instances.all.items
  pub spots : (i : ℕ) (x : Name) → i < length l.instances.all.items → spot m.instances.all.items i x ≡ spot l.instances.all.items i x
  pub scalars : (p : Place) → p.instance < length l.instances.all.items → value_at m.facts p ≡ value_at l.facts p → scalar_at m p ≡ scalar_at l p
  pub values : (p : Place) (v : Value) → value_at l.facts p ≡ Some v → value_at m.facts p ≡ Some v
  pub lines : (p : Place) → is_some (line_at l.facts p) ≡ true → is_some (line_at m.facts p) ≡ true
  pub written : (p : Place) (k : Key) (w : Place) → is_written_in (writes_at l.facts p) k w ≡ true → is_written_in (writes_at m.facts p) k w ≡ true
  pub faults : (f : FaultFact) → contains same_fault l.facts.faults f ≡ true → contains same_fault m.facts.faults f ≡ true
