-- The worklist: statements that may have a new fact are awake or not yet evaluated. The others sleep. A sleeping
-- statement had no new fact when it was evaluated, and nothing that it read then has changed. It is subscribed to all
-- of that.
use Rattle.std.specs.Prelude.{◌≡◌, ◌⊎◌, ℕ, zero, suc, ◌≤◌, ◌-◌, Bool, true, false, List, [], ◌∷◌, ◌++◌, length, Option, Some, None, nat_eq, slice_get, ◌&&◌, ◌||◌}
use Rattle.std.specs.HashMap.{get}
use Rattle.std.specs.HashSet.{HashSet, contains}
use Rattle.language.specs.Members.{◌∈◌}
use Rattle.language.specs.Parts.{stmt_action}
use Rattle.meaning_facts.specs.declared.facts.Fact.{Fact}
use Rattle.meaning_facts.specs.declared.facts.Fact.TheVariants as Is
use Rattle.meaning_facts.specs.declared.facts.Place.{Place}
use Rattle.meaning_facts.specs.declared.fact_base.FactBase.{FactBase}
use Rattle.meaning_facts.specs.Sighted.{closed_at}
use Rattle.meaning_invariants.specs.Active.{Active}
use Rattle.meaning_invariants.specs.Held.{HasPlaces}
use Rattle.meaning_round.specs.declared.worklist.WakeEvent.{WakeEvent}
use Rattle.meaning_round.specs.declared.worklist.Worklist.{Worklist}
use Rattle.meaning_round.specs.More.{KnowsMore}
use Rattle.meaning_round.specs.Reads.{at, under, IsSame, site_reads}
use Rattle.meaning_round.specs.Standing.{active_news, site_of}

-- THE WORKLIST

abbrev pub same_event : ℕ × ℕ × ℕ → ℕ × ℕ × ℕ → Bool
same_event p q = (nat_eq p.0 q.0 && nat_eq p.1 q.1) && nat_eq p.2 q.2

abbrev pub event_key : WakeEvent → ℕ × ℕ × ℕ
event_key e = (e.place.instance, e.place.node, e.hash)

abbrev pub is_in : {S : Type 0} → Option (HashSet ℕ S) → ℕ → Bool
is_in (Some numbers) k = contains nat_eq numbers k
is_in None k = false

-- a statement is subscribed to an event
abbrev pub is_called : Worklist → WakeEvent → ℕ → Bool
is_called t e k = is_in (get same_event t.called (event_key e)) k

abbrev pub is_asleep : Worklist → ℕ → Bool
is_asleep t k = contains nat_eq t.asleep k

abbrev pub IsAwake : Worklist → ℕ → Type 0
IsAwake t k = (k ∈ t.awake.items) ⊎ (t.fresh ≤ k)

-- consecutive numbers from one on
abbrev pub counted : ℕ → ℕ → List ℕ
counted n zero = []
counted n (suc more) = n ∷ counted (suc n) more

-- the numbers below the count that may have a new fact
abbrev pub numbers_of : Worklist → ℕ → List ℕ
numbers_of t count = t.awake.items ++ counted t.fresh (count - t.fresh)

-- SLEEPING STATEMENTS

abbrev pub active_reads : FactBase → Active → List WakeEvent
active_reads l a = site_reads l (site_of a) (stmt_action a.statement)

-- a statement that had no new fact at an earlier time; nothing that it read then has changed since, and it is
-- subscribed to all of that
pub record Sleeps (l : FactBase) (t : Worklist) (number : ℕ) (a : Active) : Type 0 where
  pub earlier : FactBase
  pub more : KnowsMore earlier l
  pub placed : HasPlaces earlier.instances.all.items a.instance
  pub silent : active_news earlier a ≡ []
  pub same : (e : WakeEvent) → e ∈ active_reads earlier a → IsSame earlier l e
  pub called : (e : WakeEvent) → e ∈ active_reads earlier a → is_called t e number ≡ true

-- each of these statements is awake, is among those evaluated now, or sleeps
pub record AreHeard (l : FactBase) (ls : List Active) (t : Worklist) (asked : List ℕ) : Type 0 where
  pub fresh : t.fresh ≤ length ls
  pub each : (k : ℕ) (a : Active) → slice_get ls k ≡ Some a → IsAwake t k ⊎ ((k ∈ asked) ⊎ ((is_asleep t k ≡ true) × Sleeps l t k a))

-- CHANGES OF THE WORKLIST

-- one more statement sleeps, subscribed to these events
pub record FallsAsleep (old new : Worklist) (number : ℕ) (events : List WakeEvent) : Type 0 where
  pub fresh : new.fresh ≡ old.fresh
  pub awake : new.awake.items ≡ old.awake.items
  pub asleep : (k : ℕ) → is_asleep new k ≡ nat_eq number k || is_asleep old k
  pub still : (e : WakeEvent) (k : ℕ) → is_called old e k ≡ true → is_called new e k ≡ true
  pub called : (e : WakeEvent) → e ∈ events → is_called new e number ≡ true

-- the sleeping subscribers of one of these events are awake
pub record AreWoken (old new : Worklist) (events : List WakeEvent) : Type 0 where
  pub fresh : new.fresh ≡ old.fresh
  pub called : new.called ≡ old.called
  pub asleep : (k : ℕ) → is_asleep new k ≡ true → is_asleep old k ≡ true
  pub quiet : (e : WakeEvent) → e ∈ events → (k : ℕ) → is_asleep new k ≡ true → is_called old e k ≡ false
  pub woken : (k : ℕ) → is_asleep old k ≡ true → (is_asleep new k ≡ true) ⊎ (k ∈ new.awake.items)
  pub awake : (k : ℕ) → k ∈ old.awake.items → k ∈ new.awake.items

-- the events of a fact; a write to a closed array is also an event of the closed array, since its content changes
abbrev pub closed_too : Bool → Place → List WakeEvent
closed_too true a = at a ∷ []
closed_too false a = []

abbrev pub comes_with : FactBase → Fact → List WakeEvent
comes_with l (Is.Value p v) = at p ∷ []
comes_with l (Is.Element a w) = under a w.key ∷ closed_too (closed_at l a) a
comes_with l (Is.Line p t) = []
comes_with l (Is.Fault f) = []
