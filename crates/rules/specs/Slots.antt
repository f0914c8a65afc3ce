-- The slots of a slab of waiting items.
use Rattle.std.specs.Prelude.{◌≡◌, ◌⊎◌, ℕ, ◌==◌, Bool, false, if◌then◌else◌, List, [], ◌∷◌, ◌++◌, filter_map, Option, Some, None, slice_index_or, IsPermutation}
use Rattle.rules.specs.declared.input.Input.{Input}
use Rattle.rules.specs.Waiting.{Waiting, is_ready, with_known, after_known, still_waiting, woken}

-- the contents of a slot after the input is known
abbrev pub after_slot : Input → Option Waiting → Option Waiting
after_slot i None = None
after_slot i (Some w) = after_known i w

-- the contents of a slot after the item is forgotten
abbrev pub unless_item : ℕ → Option Waiting → Option Waiting
unless_item x None = None
unless_item x (Some w) = if w.item == x then None else Some w

-- the item of a slot, if this was its last missing input
abbrev pub told : Input → Option Waiting → List ℕ
told i None = []
told i (Some w) = if is_ready (with_known i w) then w.item ∷ [] else []

-- the slot holds an item that misses nothing
abbrev pub is_idle : Option Waiting → Bool
is_idle None = false
is_idle (Some w) = is_ready w

-- no slot holds an item that misses nothing
abbrev pub AllBusy : List (Option Waiting) → Type 0
AllBusy slots = (k : ℕ) → is_idle (slice_index_or slots k None) ≡ false

-- the items in the slots
abbrev pub present : List (Option Waiting) → List Waiting
present slots = filter_map (λ slot. slot) slots

-- f changes nothing in this slot
abbrev pub IsSettled : (Option Waiting → Option Waiting) → List (Option Waiting) → ℕ → Type 0
IsSettled f slots k = f (slice_index_or slots k None) ≡ slice_index_or slots k None

-- each slot is unchanged, or was changed by f
abbrev pub Shrinks : (Option Waiting → Option Waiting) → List (Option Waiting) → List (Option Waiting) → Type 0
Shrinks f old new = (k : ℕ) → (slice_index_or new k None ≡ slice_index_or old k None) ⊎ (slice_index_or new k None ≡ f (slice_index_or old k None))

-- Some items have been updated for the input. Those whose last missing input it was are removed and appended to a list.
pub record Learnt (i : Input) (old new : List (Option Waiting)) (list longer : List ℕ) : Type 0 where
  pub said : List ℕ
  pub is : longer ≡ list ++ said
  pub told : IsPermutation (woken i (present old)) (said ++ woken i (present new))
  pub still : still_waiting i (present new) ≡ still_waiting i (present old)
