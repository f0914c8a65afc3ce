-- What a board holds of the items that have not ended.
use Rattle.std.specs.Prelude.{◌≡◌, ◌↔◌, ℕ, true, List, [], reverse, Some, None, Option, option_map, length}
use Rattle.dataflow.specs.System.{In, Input}
use Rattle.dataflow.specs.Machine.{IsKnown}
use Rattle.values.specs.declared.key.Key.{Key}
use Rattle.board_history.specs.Fields.{Frame, Want, slot_at}
use Rattle.task_code.specs.Code.{Need, entry}
use Rattle.task_code.specs.Effects.{Item}
use Rattle.task_code.specs.Machine.{CodeItem, Enabled}
use Rattle.task_code.specs.Places.{Place, Step as CodeStep}
use Rattle.task_code.specs.Runs.{IsBlockedAt, counts}
use Rattle.task_code.specs.System.{code_system, inputs_at}
use Rattle.paths.specs.declared.steps.Step.{Step}
use Rattle.board_data.specs.View.{cells_view}
use Rattle.board_data.specs.Wanted.{wanted_missed}
use Rattle.board_data.specs.declared.inputs.Environment.{Environment}
use Rattle.board_instances.specs.Names.{led_slot}
use Rattle.board_instances.specs.View.{frames_view}
use Rattle.board_instances.specs.declared.item.ItemStatus.{ItemStatus}
use Rattle.board_instances.specs.declared.item.ItemStatus.TheVariants as Status
use Rattle.board_program.specs.Tables.{wanted_in}
use Rattle.board.specs.Board.{Seen}
use Rattle.board.specs.View.{path_view}

-- an item of this entry at this path has not ended
pub record StandsAt (b : Seen) (number i : ℕ) (path : List CodeStep) : Type 0 where
  pub item : CodeItem
  pub there : In item b.state.items
  pub number_is : item.number ≡ number
  pub chunk : ℕ
  pub is : item.task ≡ Item i path chunk

abbrev pub IsLeft : Seen → ℕ → ℕ → Type 0
IsLeft b number i = (path : List CodeStep) × StandsAt b number i path

abbrev pub IsNoneLeft : Seen → ℕ → Type 0
IsNoneLeft b number = (i : ℕ) (path : List CodeStep) → StandsAt b number i path → ⊥

-- the path of the item, outermost step first
abbrev pub IsPathOf : Seen → ℕ → List Step → Type 0
IsPathOf b number steps = (i : ℕ) (path : List CodeStep) → StandsAt b number i path → path ≡ reverse (path_view steps)

-- whether the item runs, is ready or waits
abbrev pub HasStatus : Seen → ℕ → ItemStatus → Type 0
HasStatus b number (Status.Running w) = (item : CodeItem) × In item b.state.items × (item.number ≡ number) × (item.runs ≡ Some w)
HasStatus b number Status.Ready = (item : CodeItem) × In item b.state.items × (item.number ≡ number) × (item.runs ≡ None) × Enabled b.code b.state item.task
HasStatus b number Status.Waiting = (item : CodeItem) × In item b.state.items × (item.number ≡ number) × ¬ Enabled b.code b.state item.task
HasStatus b number Status.Over = ⊥

-- so many of the items run
abbrev pub AreSoManyRunning : List CodeItem → ℕ → Type 0
AreSoManyRunning items n = (running : List CodeItem) × (length running ≡ n) × ((i : CodeItem) → (In i running ↔ (In i items × ((w : ℕ) × (i.runs ≡ Some w)))))

-- the statement of the item is blocked at this offset
abbrev pub IsBlockedItem : Seen → ℕ → ℕ → Type 0
IsBlockedItem b number at = (i : ℕ) × ((path : List CodeStep) × StandsAt b number i path × (counts (entry b.code i).act ≡ true)
    × IsBlockedAt b.code (IsKnown (code_system b.code) b.state) path (entry b.code i).act (entry b.code i).at at)

-- the inputs of a need are known
abbrev pub IsNeedKnown : Seen → List CodeStep → Need → Type 0
IsNeedKnown b path n = (x : Input Place Key) → In x (inputs_at b.code path n) → IsKnown (code_system b.code) b.state x

-- the body whose names an environment resolves
abbrev pub body_in : Environment → Option ℕ
body_in v = option_map (λ (f : Frame). f.body) (slot_at (frames_view v.instances.now.slots) v.at)

-- the inputs that a need of an entry of this body misses by an environment
abbrev pub MissedInputs : Type 0
MissedInputs = List (Want ℕ)

abbrev pub missed_in : Environment → ℕ → Need → MissedInputs
missed_in v body n = wanted_missed v.program.now (cells_view v.store.now.cells) (led_slot (frames_view v.instances.now.slots) v.at) (wanted_in v.program.now body n)

-- the environment answers for the needs of the item's entry as the state does: a need misses no input exactly if it is
-- known
pub record Sees (b : Seen) (number : ℕ) (environment : Environment) : Type 0 where
  pub i : ℕ
  pub path : List CodeStep
  pub stands : StandsAt b number i path
  pub only : (j : ℕ) (p : List CodeStep) → StandsAt b number j p → (i ≡ j) × (path ≡ p)
  pub program : environment.program.now ≡ b.code
  pub body : ℕ
  pub body_is : body_in environment ≡ Some body
  pub missing : (n : Need) → In n (entry b.code i).needs → (missed_in environment body n ≡ []) ↔ IsNeedKnown b path n
