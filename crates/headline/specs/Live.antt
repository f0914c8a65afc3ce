-- The extent of a run of a script's code in terms of the script: bodies of its live blocks, and its running loops. The
-- code may be that of the script with expressions of literals folded. Then a body stands for the folded block.
use Rattle.std.specs.Prelude.{◌≡◌, ℕ, ◌<◌, ◌+◌, ◌*◌, ◌≤◌, List, [], ◌∷◌, length, map, Option, Some, Ok}
use Rattle.dataflow.specs.Events.{backs}
use Rattle.dataflow.specs.Machine.{Event}
use Rattle.dataflow.specs.System.{Distinct, In}
use Rattle.values.specs.declared.map.Element.{Element}
use Rattle.values.specs.declared.value.Value.{Value}
use Rattle.values.specs.declared.value.Value.TheVariants.{Many}
use Rattle.values.specs.Ranges.{range_count}
use Rattle.language.specs.Core.{Name, Outer, stmt, Action, range, each, Block, Core}
use Rattle.language.specs.Meaning.{Live, Ready, Meaning}
use Rattle.language.specs.Members.{◌∈◌}
use Rattle.language.specs.Openings.{Bounds, bounds}
use Rattle.language.specs.Parts.{block_list}
use Rattle.task_code.specs.Code.{Code, Loop, body, entry, loop_of}
use Rattle.task_code.specs.Count.{items_in}
use Rattle.task_code.specs.Effects.{Task, Item}
use Rattle.task_code.specs.Places.{Step}
use Rattle.fold_laws.specs.Same.{SameBlock}
use Rattle.headline.specs.Headline.{script_path}
use Rattle.code_rules.specs.IsCodeOf.{Layout, BodyAs}

-- the number of turns of a loop, given the values of its bounds or the elements of its array
pub data HasTurns : Action → List Value → ℕ → Type 0 where
  of_range : {lo hi : Outer} {st : Option Outer} {x m : ℕ} {t : Option ℕ} {b : Block} {vs : List Value} {r : Bounds} → bounds vs ≡ Some r → range_count r.low r.high r.step ≡ Ok m → HasTurns (range lo hi st x t b) vs m
  of_array : {a : Name} {x m : ℕ} {t : Option ℕ} {b : Block} {es : List Element} → m ≡ length es → HasTurns (each a x t b) (Many es ∷ []) m

-- the identity of a loop: its entry and the path
abbrev pub loop_at : ℕ × List Step × ℕ → ℕ × List Step
loop_at l = (l.0, l.1)

-- a script with its code, in this layout
module _ (s : Core) (C : Code) (l : Layout) where
  -- the body stands for a block that is live at the path in the script's meaning; the block may differ from the
  -- script's in expressions of literals
  pub record IsLiveBody (number : ℕ) (path : List Step) : Type 0 where
    pub within : number < length C.bodies
    pub inputs : ℕ
    pub block : Block
    pub stands : BodyAs C l inputs block number
    pub written : Block
    pub same : SameBlock written block
    pub live : Live s (Meaning s) (script_path path) written

  -- the item is of an entry of such a body, at the body's path
  pub record IsLiveItem (t : Task) : Type 0 where
    pub number : ℕ
    pub path : List Step
    pub chunk : ℕ
    pub is : t ≡ Item number path chunk
    pub body_number : ℕ
    pub there : In number (body C body_number).entries
    pub live : IsLiveBody body_number path

  -- the entry is a loop of such a block, which runs there with this number of turns
  pub record IsLiveLoop (number : ℕ) (path : List Step) (turns : ℕ) : Type 0 where
    pub loop : Loop
    pub is_loop : loop_of (entry C number).act ≡ Some loop
    pub body_number : ℕ
    pub there : In number (body C body_number).entries
    pub live : IsLiveBody body_number path
    pub at : ℕ
    pub node : ℕ
    pub header : Action
    pub values : List Value
    pub in_block : stmt at node header ∈ block_list live.written
    pub at_is : (entry C number).at ≡ at
    pub ready : Ready s (Meaning s) (script_path path) header values
    pub has_turns : HasTurns header values turns

  -- bodies with paths at which they are live, without duplicates
  pub record AreLiveBodies (bodies : List (ℕ × List Step)) : Type 0 where
    pub once : Distinct bodies
    pub each : (b : ℕ × List Step) → In b bodies → IsLiveBody b.0 b.1

  -- loops with the paths at which they run and their numbers of turns, without two of the same entry and path
  pub record AreLiveLoops (loops : List (ℕ × List Step × ℕ)) : Type 0 where
    pub once : Distinct (map loop_at loops)
    pub each : (l : ℕ × List Step × ℕ) → In l loops → IsLiveLoop l.0 l.1 l.2

  -- there are such bodies and loops, with at most two events for each of their items and two for each item given back
  pub record IsBounded (events : List Event) : Type 0 where
    pub bodies : List (ℕ × List Step)
    pub loops : List (ℕ × List Step × ℕ)
    pub live_bodies : AreLiveBodies bodies
    pub live_loops : AreLiveLoops loops
    pub few : length events ≤ 2 * (items_in C bodies loops + backs events)
