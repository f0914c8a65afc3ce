-- The view of a queue of one kind.
use Rattle.std.specs.Prelude.{◌≡◌, ℕ, ◌+◌, ◌-◌, ◌≤◌, max, List, [], ◌∷◌, length}
use Rattle.work_queue.specs.declared.entry.QueueEntry.{QueueEntry}
use Rattle.work_queue.specs.Entries.{IsInOrder, inserted, erased}

-- the entries of one kind, in the order in which they are taken, and the number of further entries that are sure to
-- find room
pub record Waiting : Type 0 where
  pub entries : List QueueEntry
  pub room : ℕ

-- no entries, and no room is promised
abbrev pub none : Waiting
none = record { entries = []; room = 0 }

-- one more entry, which uses one place of the room, if there is any
abbrev pub with_put : QueueEntry → Waiting → Waiting
with_put x w = record { entries = inserted x w.entries; room = w.room - 1 }

-- the same entries, with room for at least n
abbrev pub with_room : ℕ → Waiting → Waiting
with_room n w = record w { room = max w.room n }

-- all entries but the first, with room for one more than this
abbrev pub behind_first : List QueueEntry → ℕ → Waiting
behind_first [] room = record { entries = []; room = room }
behind_first (x ∷ xs) room = record { entries = xs; room = room + 1 }

-- all entries but the first, and room for one more; unchanged if there are none
abbrev pub without_first : Waiting → Waiting
without_first w = behind_first w.entries w.room

-- all entries but this one, and room for one more
abbrev pub without : QueueEntry → Waiting → Waiting
without x w = record { entries = erased x w.entries; room = w.room + 1 }

-- the entries are in order and counted, and the capacity for spare nodes includes those in use
pub record IsKept (entries : List QueueEntry) (len spare capacity : ℕ) : Type 0 where
  pub in_order : IsInOrder entries
  pub counted : len ≡ length entries
  pub has_place : len + spare ≤ capacity
