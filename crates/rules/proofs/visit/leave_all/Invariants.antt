use Rattle.std.proofs.Common.{◌≡◌, ℕ, ◌<◌, ◌≤◌, length}
use Rattle.slab.specs.Slab.{slab_len}
use Rattle.rules.specs.Slots.{unless_item, present, IsSettled, Shrinks}
use Rattle.rules.specs.Waiting.{without_item}
use Rattle.rules.proofs.visit.leave_all.Given as goal

-- the slots so far are settled
abbrev pub invariant-loop-slot : goal.invariant-loop-slot
invariant-loop-slot l =
    (without_item l.item (present l.waiters.slots) ≡ without_item l.item (present l.initial.waiters.slots))
    × ((k : ℕ) → k < l.slot → IsSettled (unless_item l.item) l.waiters.slots k)
    × Shrinks (unless_item l.item) l.initial.waiters.slots l.waiters.slots
    × (l.waiters.capacity ≡ l.initial.waiters.capacity)
    × (length l.waiters.slots ≡ length l.initial.waiters.slots)
    × (slab_len l.waiters ≤ slab_len l.initial.waiters)
