-- The fields of a board after the end of an item.
use Rattle.std.specs.Prelude.{◌≡◌, ◌+◌, ℕ, Bool, true, false, List, [], ◌∷◌, ◌++◌, None, Some, vec_capacity}
use Rattle.board_history.specs.Static.{computed_by}
use Rattle.board_data.specs.View.{cells_view}
use Rattle.board_effects.specs.Effects.{IsEffect}
use Rattle.board_effects.specs.declared.effect.Effect.{Effect}
use Rattle.board_effects.specs.declared.effect.Effect.TheVariants.{Fails}
use Rattle.paths.specs.declared.faults.Fault.{Fault}
use Rattle.dataflow.specs.Machine.{End, Event, SeesAll}
use Rattle.dataflow.specs.System.{Answer}
use Rattle.board_history.specs.Fields as Pure
use Rattle.board_history.specs.Fields.{task_of}
use Rattle.task_code.specs.Code.{Code}
use Rattle.task_code.specs.System.{code_system, task_inputs}
use Rattle.task_code.specs.Whole.{IsCode}
use Rattle.values.specs.declared.key.Key.{Key}
use Rattle.values.specs.declared.value.Scalar.{Scalar}
use Rattle.board_instances.specs.View.{frames_view, rows_view}
use Rattle.board_work.specs.Assigned.{Assigned}
use Rattle.board.specs.Board.{IsWorkOf}
use Rattle.board.specs.History.{state_of}
use Rattle.board.specs.Inside.{Stand}
use Rattle.board.specs.Rows.{RunsOn}
use Rattle.board.specs.declared.state.BoardState.{BoardState}

-- the item of the number, with work that is its own, has ended: one item less runs, unless a fault was met
pub record HasEnded (C : Code) (n : ℕ) (j : Pure.Job) (done : Assigned) (old new : BoardState) : Type 0 where
  pub stand : (events : List Event) (w : ℕ) → IsCode C → Stand C events old → old.fault ≡ None → RunsOn (rows_view old.items.rows.items) w n j → IsWorkOf C (state_of C events) (task_of (frames_view old.data_state.instances.slots) j) done → Stand C (events ++ End w n ∷ []) new
  pub running : (events : List Event) (w : ℕ) → IsCode C → Stand C events old → RunsOn (rows_view old.items.rows.items) w n j → new.fault ≡ None → new.items.running + 1 ≡ old.items.running

-- nothing has changed apart from capacity
pub record IsUnchanged (C : Code) (events : List Event) (old new : BoardState) : Type 0 where
  pub stand : Stand C events new
  pub newly : new.items.newly.items ≡ old.items.newly.items
  pub fault : new.fault ≡ old.fault
  pub running : new.items.running ≡ old.items.running

-- nothing has changed apart from capacity, for every history
pub record StaysSo (C : Code) (old new : BoardState) : Type 0 where
  pub stand : (events : List Event) → Stand C events old → Stand C events new
  pub newly : new.items.newly.items ≡ old.items.newly.items
  pub fault : new.fault ≡ old.fault
  pub running : new.items.running ≡ old.items.running

-- nothing has changed, if the fields stand for the state of a history in which the item runs, and the work is its own
abbrev pub StaysIf : Code → ℕ → Pure.Job → Assigned → BoardState → BoardState → Type 0
StaysIf C n j done old new =
    (events : List Event) (w : ℕ) → IsCode C → Stand C events old → old.fault ≡ None → RunsOn (rows_view old.items.rows.items) w n j → IsWorkOf C (state_of C events) (task_of (frames_view old.data_state.instances.slots) j) done → IsUnchanged C events old new

-- the effect of the item of the job, which ends with this work
abbrev pub IsEffectOf : Code → BoardState → Pure.Job → Assigned → Effect → Type 0
IsEffectOf C core j done e =
    (events : List Event) (w n : ℕ) → IsCode C → Stand C events core → RunsOn (rows_view core.items.rows.items) w n j → (own : IsWorkOf C (state_of C events) (task_of (frames_view core.data_state.instances.slots) j) done)
    → IsEffect C (frames_view core.data_state.instances.slots) (cells_view core.data_state.store.cells) j (computed_by C (task_of (frames_view core.data_state.instances.slots) j) own.inputs) e

-- a fault was recorded, and nothing else has changed
pub record HasFailed (f : Fault) (old new : BoardState) : Type 0 where
  pub fault : new.fault ≡ Some f
  pub data_state : new.data_state ≡ old.data_state
  pub lines : new.lines ≡ old.lines
  pub rows : new.items.rows ≡ old.items.rows
  pub rules : new.items.rules ≡ old.items.rules
  pub queue : new.items.queue ≡ old.items.queue
  pub apart : new.items.apart ≡ old.items.apart
  pub running : new.items.running ≡ old.items.running
  pub newly : new.items.newly.items ≡ []
  pub capacity : vec_capacity new.items.newly ≡ vec_capacity old.items.newly

-- the effect is a fault
abbrev pub is_fault : Effect → Bool
is_fault (Fails f) = true
is_fault e = false

-- the item has ended with this effect, which is not a fault: one item less runs
pub record HasPassed (C : Code) (n : ℕ) (j : Pure.Job) (e : Effect) (old new : BoardState) : Type 0 where
  pub stand : (events : List Event) (w : ℕ) → IsCode C → Stand C events old → old.fault ≡ None → RunsOn (rows_view old.items.rows.items) w n j
      → (xs : List (Answer Key Scalar)) → SeesAll (code_system C) (state_of C events) (task_inputs C (task_of (frames_view old.data_state.instances.slots) j)) xs
      → IsEffect C (frames_view old.data_state.instances.slots) (cells_view old.data_state.store.cells) j (computed_by C (task_of (frames_view old.data_state.instances.slots) j) xs) e → is_fault e ≡ false → Stand C (events ++ End w n ∷ []) new
  pub running : (events : List Event) (w : ℕ) → IsCode C → Stand C events old → RunsOn (rows_view old.items.rows.items) w n j → new.items.running + 1 ≡ old.items.running

-- nothing has changed apart from capacity, if the item ends with this effect
abbrev pub StaysBy : Code → ℕ → Pure.Job → Effect → BoardState → BoardState → Type 0
StaysBy C n j e old new =
    (events : List Event) (w : ℕ) → IsCode C → Stand C events old → old.fault ≡ None → RunsOn (rows_view old.items.rows.items) w n j
    → (xs : List (Answer Key Scalar)) → SeesAll (code_system C) (state_of C events) (task_inputs C (task_of (frames_view old.data_state.instances.slots) j)) xs
    → IsEffect C (frames_view old.data_state.instances.slots) (cells_view old.data_state.store.cells) j (computed_by C (task_of (frames_view old.data_state.instances.slots) j) xs) e → is_fault e ≡ false → IsUnchanged C events old new
