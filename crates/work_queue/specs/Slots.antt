-- The view of a list of slots.
use Rattle.std.specs.Prelude.{◌≡◌, ◌<◌, ℕ, true, cond, List, [], ◌∷◌, length}
use Rattle.std.specs.List.{AllByRecursion, HoldsAt}
use Rattle.work_queue.specs.declared.entry.QueueEntry.{QueueEntry}
use Rattle.work_queue.specs.declared.slot.EntrySlot.{EntrySlot}
use Rattle.work_queue.specs.Order.{precedes}

-- the entry of a slot
abbrev pub entry_in : EntrySlot → QueueEntry
entry_in s = record { priority = s.priority; no = s.no }

-- the queued entries
abbrev pub waiting : List EntrySlot → List QueueEntry
waiting [] = []
waiting (s ∷ ss) = cond s.waits (entry_in s ∷ waiting ss) (waiting ss)

-- x is taken before the entry of each slot
abbrev pub IsAhead : QueueEntry → List EntrySlot → Type 0
IsAhead x ss = AllByRecursion (λ s. precedes x (entry_in s) ≡ true) ss

-- x is taken after the entry of each slot
abbrev pub IsBehind : QueueEntry → List EntrySlot → Type 0
IsBehind x ss = AllByRecursion (λ s. precedes (entry_in s) x ≡ true) ss

-- the entry of each slot is taken before those of the following slots
abbrev pub IsRising : List EntrySlot → Type 0
IsRising [] = Unit {0}
IsRising (s ∷ ss) = IsAhead (entry_in s) ss × IsRising ss

-- the entry of the first slot is queued
abbrev pub BeginsWaiting : List EntrySlot → Type 0
BeginsWaiting [] = Unit {0}
BeginsWaiting (s ∷ ss) = s.waits ≡ true

-- the invariant of the slots of a run
pub record IsRun (ss : List EntrySlot) : Type 0 where
  pub rising : IsRising ss
  pub begins : BeginsWaiting ss

-- the slot at index k has this entry
abbrev pub IsAt : QueueEntry → List EntrySlot → ℕ → Type 0
IsAt x ss k = (k < length ss) × HoldsAt (λ s. entry_in s ≡ x) ss k
