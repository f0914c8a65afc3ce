use Rattle.std.proofs.Common.{◌≡◌, ℕ, ◌<◌, true, false}
use Rattle.rules.specs.Many.{index_in, input_at, known_in}
use Rattle.rules.specs.Places.{Grows, IsAt, is_at}
use Rattle.rules.proofs.many_inputs.note_left.Given as goal

-- the slot is noted for the inputs so far that are left
abbrev pub invariant-loop-place : goal.invariant-loop-place
invariant-loop-place l =
    Grows l.initial.places l.places
    × (l.places.strays ≡ l.initial.places.strays)
    × ((k : ℕ) → k < l.place → known_in (index_in l.index) k ≡ false → (a : ℕ) → is_at a (input_at l.inputs k) ≡ true → IsAt l.places.notes a l.slot)
