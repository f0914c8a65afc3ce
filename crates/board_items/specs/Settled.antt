-- The items after one of them was made to wait or made ready.
use Rattle.std.specs.Prelude.{◌≡◌, ◌+◌, ◌^◌, min, ◌-◌, ◌<◌, ◌≤◌, ◌++◌, ◌∷◌, [], ℕ, ℤ, List, map, pos, vec_capacity, vec_len}
use Rattle.board_history.specs.Fields as Pure
use Rattle.board_history.specs.Marking.{with_status}
use Rattle.rules.specs.Waiting.{GivesRoomBack, IsAdded, IsListed, still_waiting, woken}
use Rattle.rules.specs.declared.input.Input.{Input}
use Rattle.board_history.specs.Fields.{Want, row_of}
use Rattle.board_data.specs.View.{want_view}
use Rattle.board_instances.specs.View.{rows_view}
use Rattle.work_queue.specs.Both.{of, with_changed}
use Rattle.work_queue.specs.Waiting.{with_put}
use Rattle.work_queue.specs.declared.entry.Kind.{Kind}
use Rattle.work_queue.specs.declared.entry.Kind.TheVariants.{Control, Leaf}
use Rattle.board_items.specs.declared.items.Counts.{Counts}
use Rattle.board_items.specs.declared.items.Items.{Items}

-- nothing has changed apart from the status of items and the queue
pub record StaysButOrder (old new : Items) : Type 0 where
  pub rules : new.rules ≡ old.rules
  pub woken : new.woken ≡ old.woken

-- nothing has changed apart from missing inputs and the woken items
pub record StaysButWaits (old new : Items) : Type 0 where
  pub rows : new.rows ≡ old.rows
  pub queue : new.queue ≡ old.queue
  pub newly : new.newly ≡ old.newly
  pub apart : new.apart ≡ old.apart
  pub running : new.running ≡ old.running

-- nothing has changed apart from capacity
pub record StaysButRoom (old new : Items) : Type 0 where
  pub rows : new.rows.items ≡ old.rows.items
  pub waiting : new.rules.waiting ≡ old.rules.waiting
  pub control : new.queue.control.entries ≡ old.queue.control.entries
  pub leaf : new.queue.leaf.entries ≡ old.queue.leaf.entries
  pub newly : new.newly.items ≡ old.newly.items
  pub woken : new.woken.items ≡ old.woken.items
  pub running : new.running ≡ old.running

-- the input is known now: no item waits for it, and items that miss nothing more are recorded as woken
pub record IsTold (i : Input) (old new : Items) : Type 0 where
  pub waiting : new.rules.waiting ≡ still_waiting i old.rules.waiting
  pub noted : IsListed (woken i old.rules.waiting) old.woken.items new.woken.items
  pub room : GivesRoomBack old.rules new.rules

-- one item of the kind less
abbrev pub one_less : Kind → Counts → Counts
one_less Control a = record a { controls = a.controls - 1 }
one_less Leaf a = record a { leaves = a.leaves - 1 }

-- one item of the kind more, up to the greatest 64-bit number
abbrev pub one_more : Kind → Counts → Counts
one_more Control a = record a { controls = min (a.controls + 1) (2 ^ 64 - 1) }
one_more Leaf a = record a { leaves = min (a.leaves + 1) (2 ^ 64 - 1) }

-- the item of number 1 alone, which opens the script and is ready
pub record AreFirst (items : Items) : Type 0 where
  pub rows : rows_view items.rows.items ≡ record { job = Pure.Script; status = Pure.Ready } ∷ []
  pub waiting : items.rules.waiting ≡ []
  pub controls : items.queue.control.entries ≡ record { priority = pos 0; no = 1 } ∷ []
  pub leaves : items.queue.leaf.entries ≡ []
  pub newly : items.newly.items ≡ []
  pub running : items.running ≡ 0
  pub noted : 0 < vec_capacity items.newly

-- the item waits for these inputs now, and no item has become ready
pub record IsWaiting (number : ℕ) (missing : List (Want ℕ)) (old new : Items) : Type 0 where
  pub inputs : List Input
  pub inputs_are : map want_view inputs ≡ missing
  pub rules : IsAdded old.rules new.rules (record { item = number; missing = inputs })
  pub rows : new.rows ≡ old.rows
  pub queue : new.queue ≡ old.queue
  pub newly : new.newly ≡ old.newly
  pub apart : new.apart ≡ old.apart

-- the item is ready now, and waits for nothing
pub record IsReady (number : ℕ) (kind : Kind) (priority : ℤ) (old new : Items) : Type 0 where
  pub rules : new.rules ≡ old.rules
  pub rows : rows_view new.rows.items ≡ with_status (rows_view old.rows.items) number Pure.Ready
  pub queue : 0 < (of kind old.queue).room → new.queue ≡ with_changed kind (with_put (record { priority = priority; no = number })) old.queue
  pub newly : vec_len old.newly < vec_capacity old.newly → new.newly.items ≡ old.newly.items ++ number ∷ []
  pub apart : new.apart ≡ one_less kind old.apart

-- the item waits for what it misses, or is ready if it misses nothing
pub record Settles (number : ℕ) (missing : List (Want ℕ)) (kind : Kind) (priority : ℤ) (old new : Items) : Type 0 where
  pub waits : (missing ≡ [] → ⊥) → IsWaiting number missing old new
  pub ready : missing ≡ [] → IsReady number kind priority old new
  pub woken : new.woken ≡ old.woken
  pub running : new.running ≡ old.running
  pub capacity : vec_capacity old.newly ≤ vec_capacity new.newly
