-- The index of waiting items by input.
use Rattle.std.specs.Prelude.{◌≡◌, ◌≢◌, ◌⊎◌, ℕ, ◌+◌, ◌-◌, ◌*◌, ◌<◌, ◌≤◌, ◌/◌, ◌%◌, ◌^◌, ◌==◌, ◌||◌, Bool, true, false, List, length, Option, Some, None, slice_index_or, Contains}
use Rattle.std.specs.List.{list_any}
use Rattle.rules.specs.declared.input.Input.{Input}
use Rattle.rules.specs.declared.input.Input.TheVariants.{Whole, Element}
use Rattle.rules.specs.declared.subscribers.SlotNote.{SlotNote}
use Rattle.slab.specs.Slab.{Slab, slab_len}
use Rattle.rules.specs.Slots.{AllBusy}
use Rattle.rules.specs.Waiting.{Waiting}

-- the low 32 bits of the datum of an input
abbrev pub datum : Input → ℕ
datum (Whole d) = d % 2 ^ 32
datum (Element d k) = d % 2 ^ 32

-- 32 bits to which both halves of a hash of 64 bits contribute
unfoldable pub folded : ℕ → ℕ
folded h = (h + h / 2 ^ 32 * 2654435769 % 2 ^ 64) % 2 ^ 64 % 2 ^ 32

-- the address at which items that wait for the input are noted
abbrev pub address : Input → ℕ
address (Whole d) = d % 2 ^ 32
address (Element d k) = folded ((d * 11400714819323198485 % 2 ^ 64 + k) % 2 ^ 64)

-- an item that misses the input is noted at this address
abbrev pub is_at : ℕ → Input → Bool
is_at a i = (address i == a) || (datum i == a)

-- the item is to be noted at this address
abbrev pub needs : ℕ → Waiting → Bool
needs a w = list_any (is_at a) w.missing

-- the item in the slot, if any, is to be noted at this address
abbrev pub slot_needs : ℕ → Option Waiting → Bool
slot_needs a None = false
slot_needs a (Some w) = needs a w

-- an empty note
abbrev pub blank : SlotNote
blank = record { address = 0; slot = 0; earlier = 0 }

-- the note with this number
abbrev pub note_at : List SlotNote → ℕ → SlotNote
note_at notes i = slice_index_or notes i blank

-- the slot of a note that was unlinked from its list
abbrev pub no_slot : ℕ
no_slot = 4294967295

-- the slot is noted at the address
pub record IsAt (notes : List SlotNote) (a k : ℕ) : Type 0 where
  pub number : ℕ
  pub below : number < length notes
  pub address : (note_at notes number).address ≡ a
  pub slot : (note_at notes number).slot ≡ k
  pub real : k ≢ no_slot

-- Of n lists, and below `end`: all notes of a slot in list b are below c. Note c - 1, if any, is in the list.
pub record IsLast (n : ℕ) (notes : List SlotNote) (b c end : ℕ) : Type 0 where
  pub within : c ≤ end
  pub last : 0 < c → (note_at notes (c - 1)).address % n ≡ b
  pub others : (j : ℕ) → c ≤ j → j < end → (note_at notes j).slot ≢ no_slot → (note_at notes j).address % n ≢ b

-- each list is reachable from its head, and from each note on
pub record IsLinked (heads : List ℕ) (notes : List SlotNote) : Type 0 where
  pub tops : (b : ℕ) → b < length heads → IsLast (length heads) notes b (slice_index_or heads b 0) (length notes)
  pub links : (i : ℕ) → i < length notes → IsLast (length heads) notes ((note_at notes i).address % length heads) (note_at notes i).earlier i
  pub none : length heads ≡ 0 → length notes ≡ 0

-- the notes in this number of lists, the slots that are visited for each input, and the maximum number of those
pub record Noted : Type 0 where
  pub lists : ℕ
  pub notes : List SlotNote
  pub strays : List ℕ
  pub place : ℕ

-- no slot is noted less than before, and the maximum number of strays is the same
pub record Grows (old new : Noted) : Type 0 where
  pub notes : (a k : ℕ) → IsAt old.notes a k → IsAt new.notes a k
  pub strays : (k : ℕ) → Contains old.strays k → Contains new.strays k
  pub place : new.place ≡ old.place

-- each note but the one with this number has the slot that it had
pub record IsAllBut (old new : Noted) (number : ℕ) : Type 0 where
  pub lists : new.lists ≡ old.lists
  pub strays : new.strays ≡ old.strays
  pub place : new.place ≡ old.place
  pub size : length new.notes ≡ length old.notes
  pub addresses : (j : ℕ) → (note_at new.notes j).address ≡ (note_at old.notes j).address
  pub slots : (j : ℕ) → j ≢ number → (note_at new.notes j).slot ≡ (note_at old.notes j).slot

-- the item in the slot is noted at all its addresses, or the slot is a stray
abbrev pub IsFound : Noted → ℕ → Option Waiting → Type 0
IsFound places k o = Contains places.strays k ⊎ ((a : ℕ) → slot_needs a o ≡ true → IsAt places.notes a k)

-- each item in the slots is found
abbrev pub IsNoted : Noted → List (Option Waiting) → Type 0
IsNoted places slots = (k : ℕ) → IsFound places k (slice_index_or slots k None)

-- There are at least this number of slots, and capacity for as many strays. Each item in them misses some input and is
-- found.
pub record IsKept (waiters : Slab Waiting) (slots : ℕ) (places : Noted) : Type 0 where
  pub used : slab_len waiters ≤ slots
  pub has_place : slots ≤ waiters.capacity
  pub place : slots ≤ places.place
  pub busy : AllBusy waiters.slots
  pub noted : IsNoted places waiters.slots
