use Rattle.std.proofs.Common.{◌≡◌, ℕ, drop}
use Rattle.code_listing.specs.Labels.{maker_of}
use Rattle.code_listing.specs.Order.{bodies_made, maker_among}
use Rattle.code_listing.proofs.producers.Producers.find.Given as goal

abbrev pub invariant-loop-place : goal.invariant-loop-place
invariant-loop-place l = (n : ℕ) → maker_among (maker_of l.producers n) (bodies_made l.code (drop l.place l.positions.items)) n ≡ maker_among 0 (bodies_made l.code l.positions.items) n
