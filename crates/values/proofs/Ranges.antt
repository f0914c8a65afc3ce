-- The values of a range are those that do not pass its upper end.
use Rattle.std.proofs.Common.{◌≡◌, ℕ, ◌+◌, ◌*◌, ◌/◌, ◌<◌, ◌≤◌, arith}
use Rattle.std.specs.Prelude.{ℤ, pos, ◌+ℤ◌, ◌≤ℤ◌, ◌↔◌}
use Rattle.std.proofs.Math.Nat.{le-div_iff_mul-le}
use Rattle.std.proofs.lemmas.Int.{ints}
use Rattle.values.specs.Ranges.{value_in}

pub both_ends : (low high step : ℤ) (d s : ℕ) → step ≡ pos s → 0 < s → high ≡ low +ℤ pos d → (i : ℕ) → (i < d / s + 1) ↔ (value_in low step i ≤ℤ high)
both_ends low high step d s e p h i = rw (e, h) (
  λ l. (let m : i * s ≤ d = (le-div_iff_mul-le p).0 (omega (arith, l)) in omega (arith, ints, m)),
  λ l. (let m : i * s ≤ d = omega (arith, ints, l) in let k : i ≤ d / s = (le-div_iff_mul-le p).1 m in omega (arith, k)),
)
