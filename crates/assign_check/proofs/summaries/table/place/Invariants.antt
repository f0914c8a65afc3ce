use Rattle.std.proofs.Common.{◌≡◌, ℕ, length, slice_get}
use Rattle.assign_check.specs.Tables.{or_empty}
use Rattle.assign_check.proofs.summaries.table.place.Given as goal

abbrev pub invariant-loop : goal.invariant-loop
invariant-loop g l = record {
  as_before : (other : ℕ) → or_empty l.empty (slice_get l.values.items other) ≡ or_empty l.empty (slice_get l.fn.values.items other);
  counted : length l.values.items ≡ l.counter;
}
