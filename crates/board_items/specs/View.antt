-- The views of waiting items and of the queue.
use Rattle.std.specs.Ordering.{int_eq}
use Rattle.std.specs.Prelude.{ℕ, ℤ, List, [], ◌∷◌, map, if◌then◌else◌}
use Rattle.board_history.specs.Fields as Pure
use Rattle.task_code.specs.Code.{Control, Kind, Leaf}
use Rattle.rules.specs.Waiting as Rules
use Rattle.work_queue.specs.Both.{Both}
use Rattle.work_queue.specs.declared.entry.QueueEntry.{QueueEntry}
use Rattle.board_data.specs.View.{want_view}

-- waiting items
abbrev pub waiter_view : Rules.Waiting → Pure.Waiter
waiter_view w = record { item = w.item; missing = map want_view w.missing }

abbrev pub waiters_view : List Rules.Waiting → List Pure.Waiter
waiters_view ws = map waiter_view ws

-- the numbers of the entries of a priority
abbrev pub numbers_at : ℤ → List QueueEntry → List ℕ
numbers_at z [] = []
numbers_at z (x ∷ xs) = if int_eq x.priority z then x.no ∷ numbers_at z xs else numbers_at z xs

abbrev pub queue_view : Both → Kind → ℤ → List ℕ
queue_view q Control z = numbers_at z q.control.entries
queue_view q Leaf z = numbers_at z q.leaf.entries
