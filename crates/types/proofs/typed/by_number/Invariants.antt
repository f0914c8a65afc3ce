use Rattle.std.proofs.Common.{◌≡◌, ℕ, drop, slice_get}
use Rattle.types.specs.declared.typed.NameMeaning.TheVariants.{Nothing}
use Rattle.types.specs.Typed.{or_nothing, settled_at}
use Rattle.types.proofs.typed.by_number.Given as goal

abbrev pub invariant-loop-one : goal.invariant-loop-one
invariant-loop-one l = (number : ℕ) → settled_at l.settled number Nothing ≡ settled_at (drop l.one-index l.settled) number (or_nothing (slice_get l.meanings.items number))
