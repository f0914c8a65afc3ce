-- The items settled so far, and the room for the rest.
use Rattle.std.specs.Prelude.{◌≡◌, ◌+◌, ◌-◌, ◌≤◌, ◌++◌, true, drop, length, map, vec_capacity}
use Rattle.dataflow.specs.System.{In}
use Rattle.std.specs.Prelude.{ℕ, ℤ, List, Option, Some}
use Rattle.board_history.specs.Fields.{Counted, Frame, Job, Row, Waiter, row_of}
use Rattle.task_code.specs.Code.{Code, Kind}
use Rattle.board_instances.specs.View.{rows_view}
use Rattle.board_data.specs.Wanted.{FewSlots}
use Rattle.board_items.specs.Ended.{AreSettled, AreToSettle, numbers_behind}
use Rattle.board_items.specs.Room.{HasRoom, IsRoomy, is_apart}
use Rattle.board_items.specs.View.{queue_view, waiters_view}
use Rattle.board_items.specs.declared.items.Items.{Items}

module _ (C : Code) (fs : List (Option Frame)) (cs : List (Option Counted)) (rows : List Row) (first number : ℕ) (before : List Waiter) (queued : Kind → ℤ → List ℕ) where
  -- the items of these numbers were settled, and `left` more can be
  pub record Progress (done : List ℕ) (left : ℕ) (items : Items) : Type 0 where
    pub settled : AreSettled C fs cs rows first number before queued done (rows_view items.rows.items) (waiters_view items.rules.waiting) (queue_view items.queue) items.newly.items
    pub room : HasRoom C left items

-- these are among the first
abbrev pub AreOld : ℕ → List ℕ → Type 0
AreOld first ms = (m : ℕ) → In m ms → m ≤ first

-- the jobs of the rows that follow the first ones
abbrev pub jobs_behind : ℕ → List Row → List Job
jobs_behind first rows = map (λ (r : Row). r.job) (drop first rows)

-- all items to settle at the end of an item: the woken ones, and those that follow the first ones
abbrev pub all_to_settle : ℕ → Items → List ℕ
all_to_settle first items = items.woken.items ++ numbers_behind first (length items.rows.items - first)

-- a running item can end: it has this job, the items to settle wait, and there is room for them
pub record CanFinish (C : Code) (fs : List (Option Frame)) (cs : List (Option Counted)) (number : ℕ) (job : Job) (first : ℕ) (items : Items) : Type 0 where
  pub row : Row
  pub there : row_of (rows_view items.rows.items) number ≡ Some row
  pub runs : is_apart row.status ≡ true
  pub job_is : row.job ≡ job
  pub few : FewSlots fs
  pub to_settle : AreToSettle C fs cs (rows_view items.rows.items) first number (all_to_settle first items)
  pub old_woken : AreOld first items.woken.items
  pub within : first ≤ length items.rows.items
  pub roomy : IsRoomy C items
  pub rules_fit : length items.woken.items + (length items.rows.items - first) ≤ items.rules.room
  pub newly_fit : length items.woken.items + (length items.rows.items - first) ≤ vec_capacity items.newly
