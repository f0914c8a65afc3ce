use Rattle.std.proofs.Common.{◌≡◌, ℕ, length, slice_get}
use Rattle.types.specs.Typed.{or_nothing}
use Rattle.types.proofs.typed.place.Given as goal

abbrev pub invariant-loop : goal.invariant-loop
invariant-loop l = record {
  as_before : (other : ℕ) → or_nothing (slice_get l.meanings.items other) ≡ or_nothing (slice_get l.fn.meanings.items other);
  counted : length l.meanings.items ≡ l.counter;
}
