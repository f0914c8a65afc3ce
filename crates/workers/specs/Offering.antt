-- How newly ready items are offered to the pool.
use Rattle.std.specs.Prelude.{◌≡◌, ℕ, ℤ, pos, All, List, ◌++◌, if◌then◌else◌, int_lt, map}
use Rattle.dataflow.specs.System.{In}
use Rattle.task_code.specs.Code.{Control, Kind, Leaf}
use Rattle.task_code.specs.Machine.{CodeItem}
use Rattle.task_code.specs.System.{task_kind, task_priority}
use Rattle.board.specs.Board.{Seen}
use Rattle.pool.specs.declared.pool.HoleKind.{HoleKind as Side}
use Rattle.pool.specs.declared.pool.HoleKind.TheVariants as Sides
use Rattle.pool.specs.declared.offers.ReadyItem.{ReadyItem}

-- the kind of pool hole for a kind of item
abbrev pub pool_kind : Kind → Side
pool_kind Control = Sides.Control
pool_kind Leaf = Sides.Leaf

-- the class of a priority: below zero, zero, and above
abbrev pub class_of : ℤ → ℕ
class_of priority = if int_lt priority (pos 0) then 0 else (if int_lt (pos 0) priority then 2 else 1)

-- an offer of an item: its number, the kind of hole for it, and the class of its priority
pub record IsOffer (b : Seen) (f : ReadyItem) : Type 0 where
  pub item : CodeItem
  pub there : In item b.state.items
  pub number_is : item.number ≡ f.number
  pub side_is : f.side ≡ pool_kind (task_kind b.code item.task)
  pub class_is : f.class ≡ class_of (task_priority b.code item.task)

-- the newly ready items are appended to the list, by rising number
abbrev pub AreListed : Seen → List ReadyItem → List ReadyItem → Type 0
AreListed b old new = (more : List ReadyItem) × (new ≡ old ++ more) × (map (λ (f : ReadyItem). f.number) more ≡ b.newly) × All (IsOffer b) more
