-- Room reserved for items that wait or run.
use Rattle.std.specs.Prelude.{ℕ, ◌+◌, ◌<◌, ◌≤◌, Bool, true, false, ◌&&◌, List, [], ◌∷◌, filter, map, nat_lt, if◌then◌else◌, vec_capacity, vec_len}
use Rattle.std.specs.List.{AllZip}
use Rattle.smallvec.specs.SmallVec.{SmallVec}
use Rattle.rules.specs.declared.input.Input.{Input}
use Rattle.board_history.specs.Ending.{job_kind}
use Rattle.board_history.specs.Fields.{Job, Status, Over, Ready, Row, Running, Waiting}
use Rattle.board_history.specs.Marking.{kind_eq}
use Rattle.task_code.specs.Code.{Code, Control, Kind, Leaf}
use Rattle.board_instances.specs.View.{rows_view}
use Rattle.board_items.specs.Ended.{first_needs}
use Rattle.board_items.specs.declared.items.Items.{Items}

-- the item waits or runs
abbrev pub is_apart : Status → Bool
is_apart Waiting = true
is_apart (Running w) = true
is_apart Ready = false
is_apart Over = false

-- one list for each number above two, with room for that many inputs
abbrev pub AreListsFor : List ℕ → List (SmallVec Input) → Type 0
AreListsFor ns ls = AllZip (λ n (l : SmallVec Input). n ≤ l.capacity) (filter (nat_lt 2) ns) ls

module _ (C : Code) where
  -- the number of items of a kind that wait or run
  abbrev pub apart_in : Kind → List Row → ℕ
  apart_in k [] = 0
  apart_in k (r ∷ rs) = (if is_apart r.status && kind_eq k (job_kind C r.job) then 1 else 0) + apart_in k rs

  -- lists for the missing inputs of new items: one for each that may wait for more than two inputs, in order
  abbrev pub AreSpare : List Job → List (SmallVec Input) → Type 0
  AreSpare js ls = AllZip (λ n (l : SmallVec Input). n ≤ l.capacity) (filter (nat_lt 2) (map (first_needs C) js)) ls

  -- the queue has room for all items that wait or run, and they are counted; one number can be recorded as newly
  -- enabled
  pub record IsRoomy (items : Items) : Type 0 where
    pub controls_counted : apart_in Control (rows_view items.rows.items) ≤ items.apart.controls
    pub leaves_counted : apart_in Leaf (rows_view items.rows.items) ≤ items.apart.leaves
    pub controls_fit : apart_in Control (rows_view items.rows.items) ≤ items.queue.control.room
    pub leaves_fit : apart_in Leaf (rows_view items.rows.items) ≤ items.queue.leaf.room
    pub noted : 0 < vec_capacity items.newly

  -- the same with these further items of each kind
  pub record IsRoomyFor (controls leaves : ℕ) (items : Items) : Type 0 where
    pub controls_counted : apart_in Control (rows_view items.rows.items) + controls ≤ items.apart.controls
    pub leaves_counted : apart_in Leaf (rows_view items.rows.items) + leaves ≤ items.apart.leaves
    pub controls_fit : apart_in Control (rows_view items.rows.items) + controls ≤ items.queue.control.room
    pub leaves_fit : apart_in Leaf (rows_view items.rows.items) + leaves ≤ items.queue.leaf.room
    pub noted : 0 < vec_capacity items.newly

  -- `left` more items can wait, and can be recorded as newly enabled
  pub record HasRoom (left : ℕ) (items : Items) : Type 0 where
    pub roomy : IsRoomy items
    pub rules_fit : left ≤ items.rules.room
    pub newly_fit : vec_len items.newly + left ≤ vec_capacity items.newly
