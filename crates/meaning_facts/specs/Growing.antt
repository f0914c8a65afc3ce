-- The fact base keeps the known facts when one fact is added.
use Rattle.std.specs.Prelude.{◌≡◌, ◌⊎◌, ℕ, ◌<◌, true, List, length, Some}
use Rattle.values.specs.declared.key.Key.{Key}
use Rattle.values.specs.declared.value.Scalar.{Scalar}
use Rattle.values.specs.declared.value.Value.{Value}
use Rattle.language.specs.Facts as script
use Rattle.language.specs.Facts.{Fault, Knowledge}
use Rattle.language.specs.Members.{◌∈◌}
use Rattle.language.specs.Places.{Place}
use Rattle.meaning_steps.specs.Kept.{AreApart}
use Rattle.meaning_steps.specs.Kept.{Write as KeptWrite}
use Rattle.meaning_facts.specs.declared.facts.Fact.{Fact}
use Rattle.meaning_facts.specs.declared.facts.Fact.TheVariants as Is
use Rattle.meaning_facts.specs.declared.facts.Facts.{Facts}
use Rattle.meaning_facts.specs.declared.facts.Place.{Place as Spot}
use Rattle.meaning_facts.specs.declared.facts.Write.{Write}
use Rattle.meaning_facts.specs.declared.instances.Instance.{Instance}
use Rattle.meaning_facts.specs.declared.fact_base.FactBase.{FactBase}
use Rattle.meaning_facts.specs.Keeping.{kept_of, place_view}
use Rattle.meaning_facts.specs.Kinds.{kind_view}
use Rattle.meaning_facts.specs.Store.{writes_at}

-- a fact of a program, as a fact of the script
abbrev pub fact_view : List Instance → Fact → script.Fact
fact_view ns (Is.Value p v) = script.value (place_view ns p) v
fact_view ns (Is.Element a w) = script.element (place_view ns a) w.key (place_view ns w.writer) w.value
fact_view ns (Is.Line w bytes) = script.line (place_view ns w) bytes
fact_view ns (Is.Fault f) = script.fault (kind_view f.kind) f.at (place_view ns f.place)

-- the places of a fact are those of instances
abbrev pub IsWithin : List Instance → Fact → Type 0
IsWithin ns (Is.Value p v) = p.instance < length ns
IsWithin ns (Is.Element a w) = (a.instance < length ns) × (w.writer.instance < length ns)
IsWithin ns (Is.Line w bytes) = w.instance < length ns
IsWithin ns (Is.Fault f) = f.place.instance < length ns

-- knowledge with one more fact
abbrev pub With : Knowledge → script.Fact → Knowledge
With K f g = K g ⊎ (g ≡ f)

-- a place has one value, and a writer writes one scalar at a key
pub record IsAgreed (K : Knowledge) : Type 0 where
  pub values : (p : Place) (v u : Value) → K (script.value p v) → K (script.value p u) → v ≡ u
  pub writes : (a : Place) (key : Key) (w : Place) (v u : Scalar) → K (script.element a key w v) → K (script.element a key w u) → v ≡ u

-- the fact base holds exactly the known facts, and each writer is in an instance
pub record KeepsFacts (K : Knowledge) (l : FactBase) : Type 0 where
  pub value_so : (p : Place) (v : Value) → (kept_of l).value p ≡ Some v → K (script.value p v)
  pub value_all : (p : Place) (v : Value) → K (script.value p v) → (kept_of l).value p ≡ Some v
  pub write_so : (a : Place) (w : KeptWrite) → w ∈ (kept_of l).writes a → K (script.element a w.key w.writer w.value)
  pub write_all : (a : Place) (key : Key) (w : Place) (v : Scalar) → K (script.element a key w v) → record { key = key; writer = w; value = v } ∈ (kept_of l).writes a
  pub write_once : (a : Place) → AreApart ((kept_of l).writes a)
  pub written_so : (a : Place) (key : Key) (w : Place) → (kept_of l).written a key w ≡ true → (v : Scalar) × K (script.element a key w v)
  pub written_all : (a : Place) (key : Key) (w : Place) (v : Scalar) → K (script.element a key w v) → (kept_of l).written a key w ≡ true
  pub lined_so : (p : Place) → (kept_of l).lined p ≡ true → (bytes : List ℕ) × K (script.line p bytes)
  pub faulted_so : (f : Fault) (at : ℕ) (p : Place) → (kept_of l).faulted f at p ≡ true → K (script.fault f at p)
  pub writers : (a : Spot) (w : Write) → w ∈ writes_at l.facts a → w.writer.instance < length l.instances.all.items

-- the fact base with other facts
abbrev pub with_facts : FactBase → Facts → FactBase
with_facts l k = record { facts = k; instances = l.instances; closed = l.closed }
