use Rattle.std.proofs.Common.{◌≡◌, ◌⊎◌, ℕ, ◌+◌, ◌-◌, ◌<◌, ◌≤◌, ◌%◌, length, vec_len, vec_capacity}
use Rattle.slab.specs.Slab.{slab_len}
use Rattle.rules.specs.Places.{address, note_at, IsAt, IsNoted}
use Rattle.rules.specs.Slots.{after_slot, IsSettled, Shrinks, Learnt}
use Rattle.rules.proofs.Walking.{IsBelow}
use Rattle.rules.proofs.visit.visit_noted.Given as goal

-- the slots that were noted are settled, or are noted below `next`, and the note right below it is of the list
abbrev pub invariant-loop-next : goal.invariant-loop-next
invariant-loop-next l =
    Learnt l.input l.initial.waiters.slots l.waiters.slots l.initial.out.items l.out.items
    × ((k : ℕ) → IsAt l.initial.places.notes (address l.input) k ⊎ IsSettled (after_slot l.input) l.initial.waiters.slots k → IsSettled (after_slot l.input) l.waiters.slots k ⊎ IsBelow l.next l.places.notes (address l.input) k)
    × Shrinks (after_slot l.input) l.initial.waiters.slots l.waiters.slots
    × (l.waiters.capacity ≡ l.initial.waiters.capacity)
    × (slab_len l.waiters + vec_len l.out ≡ slab_len l.initial.waiters + vec_len l.initial.out)
    × (vec_capacity l.out ≡ vec_capacity l.initial.out)
    × IsNoted l.places l.waiters.slots
    × (l.places.strays ≡ l.initial.places.strays)
    × (l.places.place ≡ l.initial.places.place)
    × (l.next ≤ length l.places.notes)
    × (l.holder ≤ length l.places.notes)
    × (0 < l.next → (note_at l.places.notes (l.next - 1)).address % l.places.lists ≡ address l.input % l.places.lists)

abbrev pub decreases-loop-next : goal.decreases-loop-next
decreases-loop-next l = l.next
