-- Numbers in a row are distinct.
use Rattle.std.specs.Prelude.{◌≡◌, ℕ, zero, suc, ◌+◌, ◌<◌, Bool, true, false, not, ◌&&◌, ◌||◌, nat_eq, refl}
use Rattle.std.proofs.Common.{ap₂, arith}
use Rattle.std.proofs.lemmas.Bool.{eqb-true}
use Rattle.language.specs.Numbers.{numbers_from}
use Rattle.language.specs.Distinct.{has, distinct}

-- none of the numbers from m on is below m
none_below : (n m k : ℕ) → n < m → has n (numbers_from m k) ≡ false
none_below n m zero l = refl
none_below n m (suc k) l = by (nat_eq n m) refl (none_below n (m + 1) k (omega arith))
  where
    by : (b : Bool) → nat_eq n m ≡ b → has n (numbers_from (m + 1) k) ≡ false → (b || has n (numbers_from (m + 1) k)) ≡ false
    by true e rec = let q = eqb-true n m e in absurd (omega arith)
    by false e rec = rec

pub row_distinct : (m k : ℕ) → distinct (numbers_from m k) ≡ true
row_distinct m zero = refl
row_distinct m (suc k) = ap₂ (λ (a b : Bool). not a && b) (none_below m (m + 1) k (omega arith)) (row_distinct (m + 1) k)
