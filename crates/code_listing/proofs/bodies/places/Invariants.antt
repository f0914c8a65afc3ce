use Rattle.std.proofs.Common.{◌≡◌, ◌<◌, ℕ, length, drop}
use Rattle.task_code.specs.Code.{nth}
use Rattle.code_listing.specs.Order.{place_among}
use Rattle.code_listing.proofs.bodies.places.Given as goal

abbrev pub invariant-loop-place : goal.invariant-loop-place
invariant-loop-place l = record {
  many : length l.places.items ≡ length l.positions.items;
  each : (b : ℕ) → b < length l.positions.items → place_among (nth 0 l.places.items b) l.place (drop l.place l.positions.items) b ≡ place_among 0 0 l.positions.items b;
}
