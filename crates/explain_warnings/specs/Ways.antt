-- Ways in a relation of numbers, and rows of bits that hold such a relation.
use Rattle.std.specs.Prelude.{ℕ, zero, suc, Bool, false, List, get_or, not, nat_eq, ◌&&◌, ◌||◌}
use Rattle.std.specs.Int.{bit_at}

-- WAYS

-- one step from i to k, or a step from i to m and one from m to k
abbrev pub through : (ℕ → ℕ → Bool) → (m i k : ℕ) → Bool
through r m i k = r i k || (r i m && r m k)

-- a way from i to k: one step, or several of which each but the last ends at a number below m
abbrev pub leads : (ℕ → ℕ → Bool) → (m i k : ℕ) → Bool
leads r zero i k = r i k
leads r (suc m) i k = through (leads r m) m i k

-- two numbers with a way from each to the other
abbrev pub meet : (ℕ → ℕ → Bool) → (i k : ℕ) → Bool
meet r i k = not (nat_eq i k) && (r i k && r k i)

-- some number below n has this property
abbrev pub some_below : (ℕ → Bool) → (n : ℕ) → Bool
some_below f zero = false
some_below f (suc n) = f n || some_below f n

-- a number that meets another one of the first n, and none before itself
abbrev pub meets_first : (ℕ → ℕ → Bool) → (n i : ℕ) → Bool
meets_first r n i = some_below (meet r i) n && not (some_below (meet r i) i)

-- BITS

abbrev pub bit_is_set : (row k : ℕ) → Bool
bit_is_set row k = nat_eq (bit_at row k) 1

-- bit k of row i is set
abbrev pub in_rows : List ℕ → (i k : ℕ) → Bool
in_rows rows i k = bit_is_set (get_or rows i 0) k
