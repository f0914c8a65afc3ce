-- Invariants of a state between two rounds.
use Rattle.std.specs.Prelude.{◌≡◌, ◌⊎◌, ℕ, List, [], take}
use Rattle.language.specs.Core.{Core}
use Rattle.language.specs.Meaning.{Known}
use Rattle.language.specs.Members.{◌∈◌}
use Rattle.meaning_facts.specs.declared.fact_base.FactBase.{FactBase}
use Rattle.meaning_invariants.specs.Active.{Active, Candidate}
use Rattle.meaning_invariants.specs.Opened.{ArePassed, IsSoFar}
use Rattle.meaning_round.specs.declared.state.RoundState.{RoundState}
use Rattle.meaning_round.specs.Hearing.{AreHeard}
use Rattle.meaning_round.specs.Made.{arrays_of, tasks_of, waiting_of}
use Rattle.meaning_round.specs.Standing.{active_news}

-- the telling statements are live, and every other live statement has no new fact
pub record IsTelling (l : FactBase) (ls telling : List Active) : Type 0 where
  pub among : (a : Active) → a ∈ telling → a ∈ ls
  pub quiet : (a : Active) → a ∈ ls → (a ∈ telling) ⊎ (active_news l a ≡ [])

-- the state was opened correctly up to n rounds, and each processed statement has its blocks or is pending
pub record StandsBetween (s : Core) (n : ℕ) (l : FactBase) (ls : List Active) (arrays : List Candidate) (passed waiting : List Active) : Type 0 where
  pub good : IsSoFar s (Known s n) 0 l ls arrays
  pub passed_so : ArePassed s (Known s n) l ls passed waiting
  pub waiting_live : (a : Active) → a ∈ waiting → a ∈ ls

-- such a state, in which every statement that does not sleep is on the worklist
pub record IsBetween {A : Type 0} (s : Core) (n : ℕ) (state : RoundState A) : Type 0 where
  pub stands : StandsBetween s n state.fact_base (tasks_of state) (arrays_of state) (take state.passed (tasks_of state)) (waiting_of state)
  pub heard : AreHeard state.fact_base (tasks_of state) state.worklist []
