-- The knowledge of a script after some rounds.
use Rattle.std.specs.Prelude.{◌≡◌, ℕ, Bool, true, false, List, [], ◌∷◌, ◌++◌}
use Rattle.language.specs.Core.{Core}
use Rattle.language.specs.Meaning.{Known, IsFinished}
use Rattle.language.specs.Members.{◌∈◌}
use Rattle.language.specs.Outcomes.{Blocked}
use Rattle.language.specs.Parts.{stmt_at}
use Rattle.language.specs.Places.{Path}
use Rattle.meaning_facts.specs.declared.fact_base.FactBase.{FactBase}
use Rattle.meaning_steps.specs.Kept.{Keeps}
use Rattle.meaning_facts.specs.Keeping.{kept_of, IsPlaced}
use Rattle.meaning_facts.specs.Paths.{path_of}
use Rattle.meaning_invariants.specs.Held.{Holds}
use Rattle.meaning_invariants.specs.Active.{Active}
use Rattle.meaning_outcomes.specs.Stuck.{is_stuck_in}
use Rattle.meaning_outcomes.specs.declared.knowledge.Knowledge.{Knowledge}
use Rattle.meaning_outcomes.specs.declared.knowledge.BlockedId.{BlockedId}

-- the live statements that the test finds blocked
abbrev pub stuck_if : Bool → Active → List BlockedId
stuck_if true a = record { instance = a.instance; at = stmt_at a.statement } ∷ []
stuck_if false a = []

abbrev pub stuck_among : FactBase → List Active → List BlockedId
stuck_among l [] = []
stuck_among l (a ∷ others) = stuck_if (is_stuck_in l a.instance a.statement) a ++ stuck_among l others

abbrev pub stuck_path : FactBase → BlockedId → Path
stuck_path l b = path_of l.instances.all.items b.instance

-- these are exactly the blocked statements
pub record AreStuck (s : Core) (n : ℕ) (l : FactBase) (bs : List BlockedId) : Type 0 where
  pub each : (b : BlockedId) → b ∈ bs → Blocked s (Known s n) b.at (stuck_path l b)
  pub all : (at : ℕ) (path : Path) → Blocked s (Known s n) at path → (b : BlockedId) × (b ∈ bs) × (b.at ≡ at) × (stuck_path l b ≡ path)

-- what is known of a script after some rounds: the facts, each in an instance at the path of a block; the closed arrays
-- and the values of loop variables; the blocked statements; and whether one more round adds nothing
pub record IsKnowledgeOf (s : Core) (k : Knowledge) : Type 0 where
  pub placed : IsPlaced s k.fact_base.instances
  pub holds : Holds (Known s k.rounds) k.fact_base
  pub keeps : Keeps s (Known s k.rounds) (kept_of k.fact_base)
  pub stuck : AreStuck s k.rounds k.fact_base k.stuck.items
  pub finished : k.finished ≡ true → IsFinished s k.rounds
  pub unfinished : k.finished ≡ false → ¬ IsFinished s k.rounds
