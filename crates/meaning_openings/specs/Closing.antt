-- The effect of closing arrays whose blocks are finished.
use Rattle.std.specs.Prelude.{◌≡◌, ◌⊎◌, ℕ, true, false, List, []}
use Rattle.language.specs.Core.{Core}
use Rattle.language.specs.Meaning.{Known}
use Rattle.language.specs.Members.{◌∈◌}
use Rattle.meaning_facts.specs.declared.facts.Place.{Place as Spot}
use Rattle.meaning_facts.specs.declared.fact_base.FactBase.{FactBase}
use Rattle.meaning_cells.specs.Ending.{IsDone}
use Rattle.meaning_facts.specs.Sighted.{closed_at}
use Rattle.meaning_facts.specs.Indexed.{one_writer_in}
use Rattle.meaning_facts.specs.Store.{writes_at}
use Rattle.meaning_invariants.specs.Active.{Active, Candidate, goal_of}
use Rattle.meaning_invariants.specs.Opened.{IsSoFar}

-- the block of an array is finished for it, and no key has two writers
pub record IsToClose (s : Core) (l : FactBase) (c : Candidate) : Type 0 where
  pub ended : IsDone s l (goal_of c.0 c.1)
  pub one : one_writer_in (writes_at l.facts c.0) ≡ true

-- the closing preserves the invariant of the state
abbrev pub StaysSo : Core → Candidate → FactBase → FactBase → Type 0
StaysSo s c l m = (n : ℕ) (ls : List Active) (cs : List Candidate) → ◌∈◌ {X = Candidate} c cs → IsSoFar s (Known s n) 0 l ls cs → IsSoFar s (Known s n) 0 m ls cs

abbrev pub AllStaySo : Core → List Candidate → FactBase → FactBase → Type 0
AllStaySo s cs l m = (n : ℕ) (ls : List Active) → IsSoFar s (Known s n) 0 l ls cs → IsSoFar s (Known s n) 0 m ls cs

-- an array is closed, or cannot close
abbrev pub IsEnded : Core → FactBase → Candidate → Type 0
IsEnded s l c = closed_at l c.0 ≡ false → IsToClose s l c → ⊥

abbrev pub AreEnded : Core → FactBase → List Candidate → Type 0
AreEnded s l cs = (c : Candidate) → ◌∈◌ {X = Candidate} c cs → IsEnded s l c

-- an array was tried: its place is among the closed ones, or nothing has changed and it cannot close
pub record IsTried (s : Core) (c : Candidate) (l m : FactBase) (was now : List Spot) : Type 0 where
  pub so : StaysSo s c l m
  pub others : (q : Spot) → (q ∈ now) ⊎ (closed_at m q ≡ closed_at l q)
  pub kept : (q : Spot) → q ∈ was → q ∈ now
  pub ended : now ≡ [] → (was ≡ []) × (m ≡ l) × IsEnded s l c
