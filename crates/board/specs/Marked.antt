-- The fields of a board after an item begins or is given back.
use Rattle.std.specs.Prelude.{◌≡◌, ◌+◌, ◌-◌, ◌<◌, ◌^◌, ◌∷◌, ◌++◌, [], ℕ, List, None, vec_capacity}
use Rattle.dataflow.specs.Machine.{Back, Begin, Event}
use Rattle.board_history.specs.Fields as Pure
use Rattle.task_code.specs.Code.{Code}
use Rattle.task_code.specs.Whole.{IsCode}
use Rattle.board_instances.specs.View.{rows_view}
use Rattle.board.specs.Inside.{Stand}
use Rattle.board.specs.Rows.{IsReady, RunsOn}
use Rattle.board.specs.declared.state.BoardState.{BoardState}

-- the item, which was ready, runs on the worker
pub record HasBegun (C : Code) (w n : ℕ) (j : Pure.Job) (old new : BoardState) : Type 0 where
  pub stand : (events : List Event) → IsCode C → Stand C events old → old.fault ≡ None → IsReady (rows_view old.items.rows.items) n j → old.items.running + 1 < 2 ^ 64 → Stand C (events ++ Begin w n ∷ []) new
  pub running : old.items.running + 1 < 2 ^ 64 → new.items.running ≡ old.items.running + 1
  pub newly : new.items.newly.items ≡ []
  pub fault : new.fault ≡ old.fault
  pub data_state : new.data_state ≡ old.data_state
  pub runs : IsReady (rows_view old.items.rows.items) n j → RunsOn (rows_view new.items.rows.items) w n j

-- the item, which ran, is ready again
pub record HasReturned (C : Code) (n : ℕ) (j : Pure.Job) (old new : BoardState) : Type 0 where
  pub stand : (events : List Event) (w : ℕ) → IsCode C → Stand C events old → old.fault ≡ None → RunsOn (rows_view old.items.rows.items) w n j → Stand C (events ++ Back w n ∷ []) new
  pub newly : 0 < vec_capacity old.items.newly → new.items.newly.items ≡ n ∷ []
  pub running : new.items.running ≡ old.items.running - 1
  pub fault : new.fault ≡ old.fault
