-- Room for the items and the line that the end of an item creates.
use Rattle.std.specs.Prelude.{◌+◌, ◌*◌, ◌≤◌, ℕ, Bool, true, false, length, vec_capacity, vec_len}
use Rattle.task_code.specs.Code.{Code, Control, Leaf, body}
use Rattle.board_program.specs.Tables.{run_as}
use Rattle.board_items.specs.Room.{IsRoomy, IsRoomyFor}
use Rattle.board_changes.specs.declared.data_state.Change.{Change}
use Rattle.board_changes.specs.declared.data_state.Change.TheVariants as Changes
use Rattle.board.specs.declared.state.BoardState.{BoardState}

-- the number of items created for the rest of a loop
abbrev pub going : Bool → ℕ
going true = 1
going false = 0

-- the number of new items of each kind; one for the rest of a loop is a control item
abbrev pub new_controls : Code → Change → ℕ
new_controls C Changes.Nothing = 0
new_controls C (Changes.Value d v) = 0
new_controls C (Changes.Element d k v) = 0
new_controls C (Changes.Elements d es) = 0
new_controls C (Changes.Opens o) = run_as C Control (body C o.body).entries * vec_len o.list + going o.goes_on

abbrev pub new_leaves : Code → Change → ℕ
new_leaves C Changes.Nothing = 0
new_leaves C (Changes.Value d v) = 0
new_leaves C (Changes.Element d k v) = 0
new_leaves C (Changes.Elements d es) = 0
new_leaves C (Changes.Opens o) = run_as C Leaf (body C o.body).entries * vec_len o.list

-- there is room for all waiting items, for these new ones of each kind, and for a line
pub record HasRoomForItems (C : Code) (controls leaves : ℕ) (old new : BoardState) : Type 0 where
  pub items : IsRoomy C old.items → IsRoomyFor C controls leaves new.items
  pub rules : controls + leaves ≤ new.items.rules.room
  pub woken : vec_len new.items.woken + length new.items.rules.waiting ≤ vec_capacity new.items.woken
  pub newly : vec_len new.items.newly + (length new.items.rules.waiting + (controls + leaves)) ≤ vec_capacity new.items.newly
  pub lines : vec_len new.lines + 1 ≤ vec_capacity new.lines
