-- The waiting items after inputs have become known, one after the other.
use Rattle.std.specs.Prelude.{◌≡◌, ℕ, List, [], ◌∷◌, if◌then◌else◌, IsPermutation}
use Rattle.board_history.specs.Fields.{Waiter, Want}
use Rattle.board_history.specs.Needs.{still_missed}
use Rattle.rules.specs.Waiting.{Waiting}
use Rattle.board_data.specs.Wanted.{is_nil}
use Rattle.board_items.specs.View.{waiters_view}

-- the inputs that an item still misses
abbrev pub left_to : List (Want ℕ) → Waiter → List (Want ℕ)
left_to known w = still_missed known w.missing

-- the items that still wait, each without the known inputs
abbrev pub waiting_on : List (Want ℕ) → List Waiter → List Waiter
waiting_on known [] = []
waiting_on known (w ∷ ws) = if is_nil (left_to known w) then waiting_on known ws else record { item = w.item; missing = left_to known w } ∷ waiting_on known ws

-- the items that miss nothing of what they waited for
abbrev pub served : List (Want ℕ) → List Waiter → List ℕ
served known [] = []
served known (w ∷ ws) = if is_nil (left_to known w) then w.item ∷ served known ws else served known ws

-- once these inputs are known: items that still miss something wait for the rest, and the others are recorded as woken
pub record HaveLearnt (known : List (Want ℕ)) (old : List Waiter) (new : List Waiting) (woken : List ℕ) : Type 0 where
  pub waiting : waiters_view new ≡ waiting_on known old
  pub noted : IsPermutation (served known old) woken
