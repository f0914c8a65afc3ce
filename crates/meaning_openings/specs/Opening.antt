-- The effect of one step of opening on a state.
use Rattle.std.specs.Prelude.{◌≡◌, ◌⊎◌, ℕ, ◌<◌, pos, List, [], ◌∷◌, ◌++◌, length, Some, slice_get}
use Rattle.values.specs.declared.key.Key.{Key}
use Rattle.language.specs.Core as core
use Rattle.language.specs.Core.{Core, Action}
use Rattle.language.specs.Meaning.{Known}
use Rattle.language.specs.Members.{◌∈◌}
use Rattle.language.specs.Parts.{block_list}
use Rattle.language.specs.Places.{max_path_steps}
use Rattle.meaning_facts.specs.declared.instances.InstanceBindings.{InstanceBindings}
use Rattle.paths.specs.declared.steps.Step.{Step}
use Rattle.meaning_cells.specs.Chosen.{Chosen, block_in, key_in}
use Rattle.meaning_facts.specs.Paths.{path_of}
use Rattle.meaning_invariants.specs.Active.{Active, HasBlock}
use Rattle.meaning_invariants.specs.Listed.{all_active}
use Rattle.meaning_invariants.specs.Opened.{ArePassed, GoesOn, IsChildOf, IsOpened, IsSoFar, IsUnready}
use Rattle.meaning_round.specs.declared.state.RoundState.{RoundState}
use Rattle.meaning_round.specs.Made.{arrays_of, declares_here, tasks_of, waiting_of}

-- what was opened and closed so far is right after n rounds
abbrev pub IsGood : {A : Type 0} → Core → ℕ → RoundState A → Type 0
IsGood s n state = IsSoFar s (Known s n) 0 state.fact_base (tasks_of state) (arrays_of state)

-- the invariant is preserved, and everything present stays
pub record IsStep {A : Type 0} (s : Core) (n : ℕ) (old new : RoundState A) : Type 0 where
  pub so : IsGood s n new
  pub goes : GoesOn old.fact_base (tasks_of old) new.fact_base (tasks_of new)

-- a block became live in the child at a step, which existed or was opened
pub record IsEnteredBy {A : Type 0} (old : RoundState A) (parent : ℕ) (x : Step) (g : InstanceBindings) (b : core.Block) (new : RoundState A) : Type 0 where
  pub child : ℕ
  pub found : IsChildOf old.fact_base parent x g new.fact_base child
  pub tasks : tasks_of new ≡ tasks_of old ++ all_active child (block_list b)
  pub arrays : arrays_of new ≡ arrays_of old ++ declares_here child b (block_list b)

-- more statements are live, and no fact was added
pub record IsMore {A : Type 0} (old new : RoundState A) : Type 0 where
  pub more : List Active
  pub tasks : tasks_of new ≡ tasks_of old ++ more
  pub worklist : new.worklist ≡ old.worklist
  pub facts : new.fact_base.facts ≡ old.fact_base.facts
  pub closed : new.fact_base.closed ≡ old.fact_base.closed

-- the blocks that a header opens are listed, or it is pending with an unknown choice
pub data IsLookedAt {A : Type 0} (s : Core) (n : ℕ) (old : RoundState A) (a : Active) (new : RoundState A) : Type 0 where
  is_opened : IsOpened s (Known s n) new.fact_base (tasks_of new) a → waiting_of new ≡ waiting_of old → IsLookedAt s n old a new
  still_waits : waiting_of new ≡ waiting_of old ++ a ∷ [] → IsUnready new.fact_base a → IsLookedAt s n old a new

-- the blocks of the first turns of a choice are live, unless the path has the maximum length
pub record AreTurned {A : Type 0} (s : Core) (n : ℕ) (old new : RoundState A) (i at : ℕ) (header : Action) (c : Chosen) (turns : ℕ) : Type 0 where
  pub step : IsStep s n old new
  pub blocks : (j : ℕ) (b : core.Block) → j < turns → block_in header c ≡ Some b → length (path_of old.fact_base.instances.all.items i) < max_path_steps
      → HasBlock new.fact_base (tasks_of new) i at (key_in c j) b

-- the bodies of these calls of a statement are live, unless the path has the maximum length
pub record HaveBodies {A : Type 0} (s : Core) (n : ℕ) (old new : RoundState A) (i : ℕ) (cs : List core.Call) : Type 0 where
  pub step : IsStep s n old new
  pub bodies : (c : core.Call) (f : core.Function) → c ∈ cs → slice_get s.functions c.function ≡ Some f → length (path_of old.fact_base.instances.all.items i) < max_path_steps
      → HasBlock new.fact_base (tasks_of new) i c.at (Key.Number (pos 0)) f.body

-- the blocks that a statement opens are listed, or it is pending
abbrev pub IsPassed : {A : Type 0} → Core → ℕ → RoundState A → Active → Type 0
IsPassed s n state a = IsOpened s (Known s n) state.fact_base (tasks_of state) a ⊎ (a ∈ waiting_of state)

-- the pending headers are live, and their choices are not known
pub record AreWaiting {A : Type 0} (state : RoundState A) : Type 0 where
  pub live : (a : Active) → a ∈ waiting_of state → a ∈ tasks_of state
  pub unready : (a : Active) → a ∈ waiting_of state → IsUnready state.fact_base a

-- all pending headers but these were processed again
pub record AreWoken {A : Type 0} (s : Core) (n : ℕ) (old new : RoundState A) (left : List Active) : Type 0 where
  pub step : IsStep s n old new
  pub waiting : AreWaiting new
  pub woken : (a : Active) → a ∈ waiting_of old → IsPassed s n new a ⊎ (a ∈ left)

-- these statements were processed
pub record ArePassedBy {A : Type 0} (s : Core) (n : ℕ) (old new : RoundState A) (passed : List Active) : Type 0 where
  pub step : IsStep s n old new
  pub waiting : AreWaiting new
  pub so : ArePassed s (Known s n) new.fact_base (tasks_of new) passed (waiting_of new)
