-- The facts that a program holds are exactly those that are known, each at a place of an instance.
use Rattle.std.specs.Prelude.{◌≡◌, ℕ, ◌<◌, ◌≤◌, true, List, [], ◌∷◌, length, Some}
use Rattle.std.specs.HashSet.{contains}
use Rattle.values.specs.declared.value.Value.{Value}
use Rattle.language.specs.Core.{Name}
use Rattle.language.specs.Facts.{Fault, line, fault, Knowledge}
use Rattle.language.specs.Members.{◌∈◌}
use Rattle.language.specs.Places.{Place}
use Rattle.meaning_facts.specs.declared.facts.Fact.{Fact}
use Rattle.meaning_facts.specs.declared.facts.FaultFact.{FaultFact}
use Rattle.meaning_facts.specs.declared.facts.Facts.{Facts}
use Rattle.meaning_facts.specs.declared.facts.Place.{Place as Spot}
use Rattle.meaning_facts.specs.declared.facts.Write.{Write}
use Rattle.meaning_facts.specs.declared.instances.Instance.{Instance}
use Rattle.meaning_facts.specs.declared.instances.Instances.{Instances}
use Rattle.meaning_facts.specs.declared.fact_base.FactBase.{FactBase}
use Rattle.meaning_facts.specs.Added.{IsAdded}
use Rattle.meaning_facts.specs.Growing.{IsWithin, KeepsFacts}
use Rattle.meaning_facts.specs.Keeping.{place_view, same_fault, IsLocated}
use Rattle.meaning_facts.specs.Kinds.{kind_view}
use Rattle.meaning_facts.specs.Paths.{path_of}
use Rattle.meaning_facts.specs.Store.{value_at, line_at, writes_at, spot}

-- each fact is in an instance
pub record AreWithin (ns : List Instance) (k : Facts) : Type 0 where
  pub values : (p : Spot) (v : Value) → value_at k p ≡ Some v → p.instance < length ns
  pub lines : (p : Spot) (bytes : List ℕ) → line_at k p ≡ Some bytes → p.instance < length ns
  pub writes : (p : Spot) (w : Write) → w ∈ writes_at k p → p.instance < length ns
  pub faults : (g : FaultFact) → contains same_fault k.faults g ≡ true → g.place.instance < length ns

-- a line of the fact base
pub record HasLine (ns : List Instance) (k : Facts) (q : Place) (bytes : List ℕ) : Type 0 where
  pub writer : Spot
  pub located : IsLocated ns writer q
  pub there : line_at k writer ≡ Some bytes

-- a fault of the fact base
pub record HasFault (ns : List Instance) (k : Facts) (f : Fault) (at : ℕ) (q : Place) : Type 0 where
  pub held : FaultFact
  pub located : IsLocated ns held.place q
  pub kind_is : kind_view held.kind ≡ f
  pub at_is : held.at ≡ at
  pub there : contains same_fault k.faults held ≡ true

-- the fact base holds exactly what is known
pub record Holds (K : Knowledge) (l : FactBase) : Type 0 where
  pub keeps : KeepsFacts K l
  pub within : AreWithin l.instances.all.items l.facts
  pub line_so : (p : Spot) (bytes : List ℕ) → line_at l.facts p ≡ Some bytes → K (line (place_view l.instances.all.items p) bytes)
  pub line_all : (q : Place) (bytes : List ℕ) → K (line q bytes) → HasLine l.instances.all.items l.facts q bytes
  pub fault_so : (g : FaultFact) → contains same_fault l.facts.faults g ≡ true → K (fault (kind_view g.kind) g.at (place_view l.instances.all.items g.place))
  pub fault_all : (f : Fault) (at : ℕ) (q : Place) → K (fault f at q) → HasFault l.instances.all.items l.facts f at q

-- more instances, and those present keep their paths
pub record Grows (ns ms : List Instance) : Type 0 where
  pub longer : length ns ≤ length ms
  pub path_same : (i : ℕ) → i < length ns → path_of ms i ≡ path_of ns i

-- the fact base with other instances
abbrev pub with_instances : FactBase → Instances → FactBase
with_instances l t = record { facts = l.facts; instances = t; closed = l.closed }

-- facts are added one by one
pub data AreAdded : Facts → List Fact → Facts → Type 0 where
  no_more : {k : Facts} → AreAdded k [] k
  one_more : {k j l : Facts} {f : Fact} {fs : List Fact} → IsAdded k f j → AreAdded j fs l → AreAdded k (f ∷ fs) l

-- an instance is present, and the places of its names are in instances
pub record HasPlaces (ns : List Instance) (i : ℕ) : Type 0 where
  pub within : i < length ns
  pub names : (x : Name) → (spot ns i x).instance < length ns

-- facts at places of instances
pub record AreInside (ns : List Instance) (fs : List Fact) : Type 0 where
  pub each : (f : Fact) → f ∈ fs → IsWithin ns f

-- the derivation of facts of an instance preserves that facts are at places of instances
abbrev pub StayInside : List Instance → ℕ → List Fact → List Fact → Type 0
StayInside ns i old new = HasPlaces ns i → AreInside ns old → AreInside ns new
