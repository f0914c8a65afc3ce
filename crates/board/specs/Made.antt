-- The effect of an ending item on instances, data and waiting items, before items are settled.
use Rattle.std.specs.Prelude.{◌≡◌, ◌+◌, ◌≤◌, ℕ, List, [], ◌++◌, Option, length, vec_capacity, vec_len}
use Rattle.board_history.specs.Fields.{Job, Waiter, Want}
use Rattle.task_code.specs.Code.{Code}
use Rattle.values.specs.declared.value.Scalar.{Scalar}
use Rattle.board_data.specs.Data.{AreRising}
use Rattle.board_instances.specs.View.{frames_view, rows_view}
use Rattle.board_items.specs.Learnt.{HaveLearnt}
use Rattle.board_changes.specs.World.{WorldEnds}
use Rattle.board_changes.specs.declared.data_state.Change.{Change}
use Rattle.rules.specs.Waiting.{GivesRoomBack}
use Rattle.board.specs.Changing.{line_list}
use Rattle.board.specs.declared.state.BoardState.{BoardState}

-- there is room to record all waiting items as woken
abbrev pub CanNote : BoardState → Type 0
CanNote c = length c.items.rules.waiting ≤ vec_capacity c.items.woken

-- the change of the job was made, the line was printed, and waiting items were notified of what became known
pub record HasMade (C : Code) (j : Job) (x : Change) (line : Option Scalar) (old new : BoardState) : Type 0 where
  pub news : List (Want ℕ)
  pub data_state : WorldEnds C j x (frames_view old.data_state.instances.slots) (frames_view new.data_state.instances.slots) (rows_view old.items.rows.items) (rows_view new.items.rows.items) old.data_state.store new.data_state.store news
  pub rising : AreRising old.data_state.store → AreRising new.data_state.store
  pub learnt : CanNote old → (start : List Waiter) → HaveLearnt [] start old.items.rules.waiting [] → HaveLearnt news start new.items.rules.waiting new.items.woken.items
  pub rules : CanNote old → GivesRoomBack old.items.rules new.items.rules
  pub count : length new.items.rules.waiting + vec_len new.items.woken ≡ length old.items.rules.waiting
  pub lines : new.lines.items ≡ old.lines.items ++ line_list line
  pub queue : new.items.queue ≡ old.items.queue
  pub apart : new.items.apart ≡ old.items.apart
  pub running : new.items.running ≡ old.items.running
  pub newly : new.items.newly.items ≡ []
  pub capacity : vec_capacity new.items.newly ≡ vec_capacity old.items.newly
  pub fault : new.fault ≡ old.fault
