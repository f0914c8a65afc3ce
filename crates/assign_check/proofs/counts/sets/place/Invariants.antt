use Rattle.std.proofs.Common.{◌≡◌, ℕ, length}
use Rattle.assign_check.specs.Sets.{set_in}
use Rattle.assign_check.proofs.counts.sets.place.Given as goal

abbrev pub invariant-loop : goal.invariant-loop
invariant-loop l = record {
  as_before : (other : ℕ) → set_in l.sets.items other ≡ set_in l.fn.sets.items other;
  counted : length l.sets.items ≡ l.counter;
}
