-- The merge of two lists of entries.
use Rattle.std.specs.Prelude.{◌≤◌, ℕ, List, [], ◌∷◌, length}
use Rattle.work_queue.specs.declared.entry.QueueEntry.{QueueEntry}
use Rattle.work_queue.specs.Entries.{IsInOrder, inserted}
use Rattle.work_queue.specs.Waiting.{IsKept}

-- the entries of both lists, in order if those of the second are
abbrev pub merged : List QueueEntry → List QueueEntry → List QueueEntry
merged [] ys = ys
merged (x ∷ xs) ys = inserted x (merged xs ys)

-- the invariant of the tree holds, the run is in order too, and there is a spare node for each entry of the run
pub record IsShared (tree run : List QueueEntry) (len spare capacity : ℕ) : Type 0 where
  pub kept : IsKept tree len spare capacity
  pub in_order : IsInOrder run
  pub has_nodes : length run ≤ spare
