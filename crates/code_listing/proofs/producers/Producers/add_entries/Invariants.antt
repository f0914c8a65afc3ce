use Rattle.std.proofs.Common.{◌≡◌, ℕ, drop}
use Rattle.code_listing.specs.Labels.{maker_of}
use Rattle.code_listing.specs.Order.{entries_made, maker_among}
use Rattle.code_listing.proofs.producers.Producers.add_entries.Given as goal

abbrev pub invariant-loop-k : goal.invariant-loop-k
invariant-loop-k l = (n : ℕ) → maker_among (maker_of l.self n) (entries_made l.code l.k (drop l.k l.entries)) n ≡ maker_among (maker_of l.fn.self n) (entries_made l.code 0 l.entries) n
