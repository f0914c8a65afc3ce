use Rattle.std.proofs.Common.{◌≡◌, ◌≤◌, ◌+◌, ℕ, length}
use Rattle.board_data.specs.Data.{AreRising}
use Rattle.board_data.specs.Made.{DataMade, slot_in, start_at}
use Rattle.board_data.proofs.making.make_data.Given as goal

abbrev pub invariant-loop-at : goal.invariant-loop-at
invariant-loop-at l =
    (length l.own ≤ length l.initial.slots → DataMade l.own (start_at l.initial.starts) l.at l.initial.store l.slots l.store)
    × ((i : ℕ) → length l.own ≤ i → slot_in l.slots i ≡ slot_in l.initial.slots i)
    × ((i : ℕ) → l.at ≤ i → start_at l.starts i ≡ start_at l.initial.starts i)
    × (length l.own ≤ l.initial.store.room → length l.own ≤ l.store.room + l.at)
    × (AreRising l.initial.store → AreRising l.store)
    × (length l.own ≤ l.initial.store.room → l.store.bound ≡ l.initial.store.bound)
