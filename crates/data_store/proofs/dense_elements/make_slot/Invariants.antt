use Rattle.std.proofs.Common.{◌≡◌, ◌+◌, ◌-◌, ◌<◌, ◌≤◌, ◌^◌, vec_len}
use Rattle.data_store.specs.Filled.{filled}
use Rattle.data_store.proofs.dense_elements.make_slot.Given as goal

abbrev pub invariant-loop-slots : goal.invariant-loop-slots
invariant-loop-slots l =
    (filled 0 l.slots.items ≡ filled 0 l.initial.slots.items) × (l.place < 2 ^ 32 → vec_len l.initial.slots ≤ 2 ^ 32 → vec_len l.slots ≤ 2 ^ 32)

abbrev pub decreases-loop-slots : goal.decreases-loop-slots
decreases-loop-slots l = l.place + 1 - vec_len l.slots
