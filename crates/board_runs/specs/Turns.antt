-- Runs of one thread, which selects an item in each step.
use Rattle.std.specs.Prelude.{◌≡◌, ◌⊎◌, ℕ, zero, suc, ◌%◌, ◌<◌, List, [], Option, None, Some, drop, length, slice_get, slice_index}
use Rattle.dataflow.specs.Machine.{Begin, End, start}
use Rattle.dataflow.specs.System.{In}
use Rattle.task_code.specs.Code.{Code, Control, Kind, Leaf}
use Rattle.task_code.specs.Machine.{CodeItem}
use Rattle.task_code.specs.System.{code_system, task_kind}
use Rattle.board.specs.Board.{Accepts, IsGoing, Seen}
use Rattle.board.specs.Ready.{AreReady, IsFirst, IsReady}
use Rattle.board_runs.specs.declared.step.StepOutcome.{StepOutcome}
use Rattle.board_runs.specs.declared.step.StepOutcome.TheVariants.{Half, Nothing, Whole}

-- control items run on worker 0, leaf items on worker 1
abbrev pub worker_for : Kind → ℕ
worker_for Control = 0
worker_for Leaf = 1

-- of the ready items in their order, this number is at index `choice`, modulo their count
pub record IsChosen (b : Seen) (choice number : ℕ) : Type 0 where
  pub numbers : List ℕ
  pub ready : AreReady b numbers
  pub some : 0 < length numbers
  pub number_is : number ≡ slice_index numbers (choice % length numbers)

-- without a choice, it is the first of them
abbrev pub IsNamed : Seen → Option ℕ → ℕ → Type 0
IsNamed b (Some choice) number = IsChosen b choice number
IsNamed b None number = IsFirst b number

-- the item of this number is the one that is begun, and this worker is for its kind
pub record Picks (b : Seen) (choice : Option ℕ) (worker number : ℕ) : Type 0 where
  pub named : IsNamed b choice number
  pub item : CodeItem
  pub there : In item b.state.items
  pub item_is : item.number ≡ number
  pub worker_is : worker ≡ worker_for (task_kind b.code item.task)

-- no item is ready
abbrev pub NoneReady : Seen → Type 0
NoneReady b = (i : CodeItem) → IsReady b i → ⊥

-- a step by this choice, if there is one, leads from old to new
abbrev pub TurnsTo : StepOutcome → Option ℕ → Seen → Seen → Type 0
TurnsTo Whole c old new = (w n : ℕ) × Picks old c w n × ((mid : Seen) × Accepts old (Begin w n) mid × Accepts mid (End w n) new)
TurnsTo Half c old new = (w n : ℕ) × Picks old c w n × Accepts old (Begin w n) new × ¬ IsGoing new
TurnsTo Nothing c old new = (new ≡ old) × (NoneReady old ⊎ ¬ IsGoing old)

-- n whole steps, by the choices in order and then without one
abbrev pub Turns : ℕ → List ℕ → Seen → Seen → Type 0
Turns zero cs old new = new ≡ old
Turns (suc n) cs old new = (mid : Seen) × TurnsTo Whole (slice_get cs 0) old mid × Turns n (drop 1 cs) mid new

-- whole steps, followed by a half step or none that is possible
abbrev pub RanTo : List ℕ → Seen → Seen → Type 0
RanTo cs old new = (n : ℕ) × (mid : Seen) × Turns n cs old mid × (TurnsTo Half (slice_get cs n) mid new ⊎ TurnsTo Nothing (slice_get cs n) mid new)

-- the state before any event
abbrev pub starts : Code → ℕ → Seen
starts C limit = record { code = C; limit = limit; state = start (code_system C); history = []; newly = [] }
