-- The effect of adding a fact: it takes its own place if that is empty, and nothing else changes.
use Rattle.std.specs.Prelude.{◌≡◌, ℕ, Bool, true, false, not, List, [], ◌∷◌, ◌++◌, Option, Some, None, is_some, if◌then◌else◌}
use Rattle.std.specs.HashSet.{contains}
use Rattle.values.specs.declared.value.Value.{Value}
use Rattle.meaning_facts.specs.declared.facts.Place.{Place}
use Rattle.meaning_facts.specs.declared.facts.Write.{Write}
use Rattle.meaning_facts.specs.declared.facts.FaultFact.{FaultFact}
use Rattle.meaning_facts.specs.declared.facts.Fact.{Fact}
use Rattle.meaning_facts.specs.declared.facts.Fact.TheVariants as Is
use Rattle.meaning_facts.specs.declared.facts.Facts.{Facts}
use Rattle.meaning_facts.specs.Keeping.{same_fault}
use Rattle.meaning_facts.specs.Store.{same_place, value_at, line_at, writes_at, is_written_in}

-- the present value, or otherwise the new one
abbrev pub first_of : {X : Type 0} → Option X → X → Option X
first_of (Some x) y = Some x
first_of None y = Some y

-- appends a write, unless its writer has already written the key
abbrev pub with_write : List Write → Write → List Write
with_write ws w = if is_written_in ws w.key w.writer then ws else ws ++ w ∷ []

abbrev pub value_after : Facts → Fact → Place → Option Value
value_after k (Is.Value p v) q = if same_place p q then first_of (value_at k q) v else value_at k q
value_after k (Is.Element p w) q = value_at k q
value_after k (Is.Line p t) q = value_at k q
value_after k (Is.Fault f) q = value_at k q

abbrev pub line_after : Facts → Fact → Place → Option (List ℕ)
line_after k (Is.Value p v) q = line_at k q
line_after k (Is.Element p w) q = line_at k q
line_after k (Is.Line p t) q = if same_place p q then first_of (line_at k q) t else line_at k q
line_after k (Is.Fault f) q = line_at k q

abbrev pub writes_after : Facts → Fact → Place → List Write
writes_after k (Is.Value p v) q = writes_at k q
writes_after k (Is.Element p w) q = if same_place p q then with_write (writes_at k q) w else writes_at k q
writes_after k (Is.Line p t) q = writes_at k q
writes_after k (Is.Fault f) q = writes_at k q

abbrev pub fault_after : Facts → Fact → FaultFact → Bool
fault_after k (Is.Value p v) g = contains same_fault k.faults g
fault_after k (Is.Element p w) g = contains same_fault k.faults g
fault_after k (Is.Line p t) g = contains same_fault k.faults g
fault_after k (Is.Fault f) g = if same_fault f g then true else contains same_fault k.faults g

-- a fact that was not known
abbrev pub is_new : Facts → Fact → Bool
is_new k (Is.Value p v) = not (is_some (value_at k p))
is_new k (Is.Element p w) = not (is_written_in (writes_at k p) w.key w.writer)
is_new k (Is.Line p t) = not (is_some (line_at k p))
is_new k (Is.Fault f) = not (contains same_fault k.faults f)

-- the facts with one more
pub record IsAdded (k : Facts) (f : Fact) (l : Facts) : Type 0 where
  pub values : (q : Place) → value_at l q ≡ value_after k f q
  pub lines : (q : Place) → line_at l q ≡ line_after k f q
  pub writes : (q : Place) → writes_at l q ≡ writes_after k f q
  pub faults : (g : FaultFact) → contains same_fault l.faults g ≡ fault_after k f g

-- no fact is known
pub record IsNothing (k : Facts) : Type 0 where
  pub values : (q : Place) → value_at k q ≡ None
  pub lines : (q : Place) → line_at k q ≡ None
  pub writes : (q : Place) → writes_at k q ≡ []
  pub faults : (g : FaultFact) → contains same_fault k.faults g ≡ false

-- the same facts are known
pub record HasSame (k l : Facts) : Type 0 where
  pub values : (q : Place) → value_at l q ≡ value_at k q
  pub lines : (q : Place) → line_at l q ≡ line_at k q
  pub writes : (q : Place) → writes_at l q ≡ writes_at k q
  pub faults : (g : FaultFact) → contains same_fault l.faults g ≡ contains same_fault k.faults g
