use Rattle.std.proofs.Common.{◌≡◌, ℕ, ◌<◌, true}
use Rattle.rules.specs.Many.{input_at}
use Rattle.rules.specs.Places.{IsAt, is_at}
use Rattle.rules.proofs.many_inputs.places_in.Given as goal

-- the places so far are noted
abbrev pub invariant-loop-place : goal.invariant-loop-place
invariant-loop-place l = (k : ℕ) → k < l.place → (a : ℕ) → is_at a (input_at l.inputs k) ≡ true → IsAt l.places.notes a k
