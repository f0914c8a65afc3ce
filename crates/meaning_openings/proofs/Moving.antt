-- What was opened so far is so of a state with the same lists, and where nothing is opened.
use Rattle.std.specs.Prelude.{◌≡◌, ℕ, List, [], ◌∷◌, ◌++◌}
use Rattle.std.proofs.Common.{sym, ap, ◌∙◌, subst}
use Rattle.std.proofs.lemmas.List.{append-nil}
use Rattle.language.specs.Core.{Core}
use Rattle.language.specs.Meaning.{Known}
use Rattle.meaning_facts.specs.declared.fact_base.FactBase.{FactBase}
use Rattle.meaning_invariants.specs.Active.{Active, Candidate}
use Rattle.meaning_invariants.specs.Opened.{GoesOn, IsSoFar, IsUnready}
use Rattle.meaning_invariants.proofs.Going.{goes_nowhere}
use Rattle.meaning_round.specs.declared.state.RoundState.{RoundState}
use Rattle.meaning_round.specs.Made.{arrays_of, tasks_of, waiting_of}
use Rattle.meaning_openings.specs.Opening.{IsGood, IsLookedAt, still_waits, IsMore, IsStep}

-- what is so of these lists is so of a state that has them
pub step_as : {A : Type 0} (s : Core) (n : ℕ) (old new : RoundState A) (m : FactBase) (ls : List Active) (cs : List Candidate) → new.fact_base ≡ m → tasks_of new ≡ ls → arrays_of new ≡ cs
    → IsSoFar s (Known s n) 0 m ls cs → GoesOn old.fact_base (tasks_of old) m ls → IsStep s n old new
step_as {A} s n old new m ls cs e f g so goes = record {
  so = subst (λ (z : List Candidate). IsSoFar s (Known s n) 0 new.fact_base (tasks_of new) z) (sym g)
      (subst (λ (z : List Active). IsSoFar s (Known s n) 0 new.fact_base z cs) (sym f)
      (subst (λ (z : FactBase). IsSoFar s (Known s n) 0 z ls cs) (sym e) so));
  goes = subst (λ (z : List Active). GoesOn old.fact_base (tasks_of old) new.fact_base z) (sym f)
      (subst (λ (z : FactBase). GoesOn old.fact_base (tasks_of old) z ls) (sym e) goes);
}

-- where nothing is opened
pub stay_step : {A : Type 0} (s : Core) (n : ℕ) (old new : RoundState A) → new.fact_base ≡ old.fact_base → tasks_of new ≡ tasks_of old → arrays_of new ≡ arrays_of old → IsGood s n old → IsStep s n old new
stay_step {A} s n old new e f g good =
    step_as s n old new old.fact_base (tasks_of old) (arrays_of old) e f g good (goes_nowhere old.fact_base (tasks_of old) (tasks_of old) (λ a m. m))

pub stay_more : {A : Type 0} (old new : RoundState A) → new.fact_base ≡ old.fact_base → tasks_of new ≡ tasks_of old → new.worklist ≡ old.worklist → IsMore old new
stay_more {A} old new e f g = record {
  more = [];
  tasks = f ∙ sym (append-nil (tasks_of old));
  worklist = g;
  facts = ap (λ (l : FactBase). l.facts) e;
  closed = ap (λ (l : FactBase). l.closed) e;
}

-- a header that is kept among those that wait
pub kept_waiting : {A : Type 0} (s : Core) (n : ℕ) (old new : RoundState A) (a : Active) → new.fact_base ≡ old.fact_base → tasks_of new ≡ tasks_of old → arrays_of new ≡ arrays_of old
    → waiting_of new ≡ waiting_of old ++ a ∷ [] → IsGood s n old → IsUnready old.fact_base a → IsStep s n old new × IsLookedAt s n old a new
kept_waiting {A} s n old new a e f g w good unready = (stay_step s n old new e f g good, still_waits w (subst (λ (z : FactBase). IsUnready z a) (sym e) unready))
