-- Bits of rows, one after another, and the relation that they hold.
use Rattle.std.proofs.Common.{◌≡◌, ◌≢◌, ℕ, zero, suc, ◌<◌, ◌≤◌, ◌+◌, ◌*◌, ◌^◌, ◌%◌, List, length, get_or, refl, ap, sym, subst, ◌∙◌, arith, w64, bit_or, Decides, inl, inr}
use Rattle.std.specs.Prelude.{◌⊎◌, Bool, true, false, max, set, nat_eq, nat_lt, ◌&&◌, ◌||◌}
use Rattle.std.specs.Int.{bit_at}
use Rattle.std.proofs.Math.Path.{fun_ext}
use Rattle.std.proofs.lemmas.Bool.{eqb-true, eqb-false, lt-ltb, le-ltb, ltb-true, ltb-false, cases_lt}
use Rattle.std.proofs.lemmas.Bool.Decides.{Decides-below_or}
use Rattle.std.proofs.lemmas.List.{get_or-set_same, get_or-set_other, get_or_past}
use Rattle.std.proofs.lemmas.Nat.Bits.{bit_at_or, bit_at-lt, bit_at_above, bit_at_set_same, bit_at_set_other, bit_at-zero}
use Rattle.explain_warnings.specs.Ways.{through, leads, some_below, bit_is_set, in_rows}

-- a row has 64 bits
pub no_bit : (row k : ℕ) → row < 2 ^ 64 → 64 ≤ k → false ≡ bit_is_set row k
no_bit row k fits above = sym (ap (λ b. nat_eq b 1) (bit_at_above row 64 k fits above))

max_is_one : (a b : ℕ) → a < 2 → b < 2 → nat_eq (max a b) 1 ≡ (nat_eq a 1 || nat_eq b 1)
max_is_one zero zero l m = refl
max_is_one zero (suc zero) l m = refl
max_is_one zero (suc (suc b)) l m = absurd (omega (arith, m))
max_is_one (suc zero) zero l m = refl
max_is_one (suc zero) (suc zero) l m = refl
max_is_one (suc zero) (suc (suc b)) l m = absurd (omega (arith, m))
max_is_one (suc (suc a)) b l m = absurd (omega (arith, l))

-- two rows joined
pub bits_joined : (row other k : ℕ) → bit_is_set (bit_or row other) k ≡ (bit_is_set row k || bit_is_set other k)
bits_joined row other k =
    ap (λ b. nat_eq b 1) (bit_at_or row other k) ∙ max_is_one (bit_at row k) (bit_at other k) (bit_at-lt row k) (bit_at-lt other k)

-- one more bit
pub bit_added : (row place : ℕ) → place < 64 → (k : ℕ) → bit_is_set (bit_or row (1 * 2 ^ place % 18446744073709551616)) k ≡ (nat_eq k place || bit_is_set row k)
bit_added row place within k = by (nat_eq k place) refl
  where
    by : (same : Bool) → nat_eq k place ≡ same → bit_is_set (bit_or row (1 * 2 ^ place % 18446744073709551616)) k ≡ (same || bit_is_set row k)
    by true is =
        ap (λ j. bit_is_set (bit_or row (1 * 2 ^ place % 18446744073709551616)) j) (eqb-true k place is)
        ∙ ap (λ b. nat_eq b 1) (bit_at_set_same w64 row place within)
    by false is = ap (λ b. nat_eq b 1) (bit_at_set_other w64 row place within k (eqb-false k place is))

or_none : (a : Bool) → (a || false) ≡ a
or_none true = refl
or_none false = refl

-- the rows before row i are joined with another one, where they have its bit
abbrev pub AreJoined : (place other : ℕ) (old rows : List ℕ) (i : ℕ) → Type 0
AreJoined place other old rows i = (j k : ℕ) → in_rows rows j k ≡ (in_rows old j k || (nat_lt j i && (in_rows old j place && bit_is_set other k)))

-- no row is joined yet
pub joined_none : (place other : ℕ) (old : List ℕ) → AreJoined place other old old 0
joined_none place other old j k =
    sym (ap (λ b. in_rows old j k || (b && (in_rows old j place && bit_is_set other k))) (le-ltb j 0 (omega arith)) ∙ or_none (in_rows old j k))

-- one more row
pub joined_more : (place other : ℕ) (old rows : List ℕ) (i row : ℕ) → AreJoined place other old rows i → i < length rows
    → ((k : ℕ) → bit_is_set row k ≡ (in_rows rows i k || (in_rows rows i place && bit_is_set other k)))
    → AreJoined place other old (set rows i row) (i + 1)
joined_more place other old rows i row so_far below is j k = by (nat_eq j i) refl
  where
    kept : (n : ℕ) → in_rows rows i n ≡ in_rows old i n
    kept n =
        so_far i n ∙ ap (λ b. in_rows old i n || (b && (in_rows old i place && bit_is_set other n))) (le-ltb i i (omega arith)) ∙ or_none (in_rows old i n)

    by : (same : Bool) → nat_eq j i ≡ same → in_rows (set rows i row) j k ≡ (in_rows old j k || (nat_lt j (i + 1) && (in_rows old j place && bit_is_set other k)))
    by true eq =
        let at : j ≡ i = eqb-true j i eq in
        let here : in_rows (set rows i row) i k ≡ (in_rows old i k || (nat_lt i (i + 1) && (in_rows old i place && bit_is_set other k))) =
        ap (λ r. bit_is_set r k) (get_or-set_same rows i row 0 below) ∙ is k
        ∙ (λ d. kept k d || (kept place d && bit_is_set other k))
        ∙ ap (λ b. in_rows old i k || (b && (in_rows old i place && bit_is_set other k))) (sym (lt-ltb i (i + 1) (omega arith))) in
        subst (λ n. in_rows (set rows i row) n k ≡ (in_rows old n k || (nat_lt n (i + 1) && (in_rows old n place && bit_is_set other k)))) (sym at) here
    by false eq =
        ap (λ r. bit_is_set r k) (get_or-set_other rows i j row 0 (eqb-false j i eq)) ∙ so_far j k
        ∙ ap (λ b. in_rows old j k || (b && (in_rows old j place && bit_is_set other k))) (later (nat_lt j i) refl)
      where
        later : (less : Bool) → nat_lt j i ≡ less → nat_lt j i ≡ nat_lt j (i + 1)
        later true l = let m = ltb-true j i l in l ∙ sym (lt-ltb j (i + 1) (omega (arith, m)))
        later false l = let m = ltb-false j i l in let n : j ≢ i = eqb-false j i eq in l ∙ sym (le-ltb j (i + 1) (omega (arith, m, n)))

-- no row is left
pub joined_all : (place other : ℕ) (old rows : List ℕ) (i : ℕ) → other ≡ get_or old place 0 → length old ≤ i → AreJoined place other old rows i
    → in_rows rows ≡ through (in_rows old) place
joined_all place other old rows i is ended so_far = fun_ext (λ j. fun_ext (λ k. at j k))
  where
    at : (j k : ℕ) → in_rows rows j k ≡ through (in_rows old) place j k
    at j k =
        so_far j k ∙ ap (λ o. in_rows old j k || (nat_lt j i && (in_rows old j place && bit_is_set o k))) is
        ∙ ap (λ b. in_rows old j k || b) (by (cases_lt j i))
      where
        by : ((j < i) ⊎ (i ≤ j)) → (nat_lt j i && (in_rows old j place && in_rows old place k)) ≡ (in_rows old j place && in_rows old place k)
        by (inl l) = ap (λ b. b && (in_rows old j place && in_rows old place k)) (lt-ltb j i l)
        by (inr l) =
            ap (λ b. b && (in_rows old j place && in_rows old place k)) (le-ltb j i l)
            ∙ sym (ap (λ b. b && in_rows old place k) (ap (λ r. bit_is_set r place) (get_or_past old j 0 (omega (arith, l, ended))) ∙ ap (λ b. nat_eq b 1) (bit_at-zero place)))

-- one more number that ways may pass
pub led_more : (r : ℕ → ℕ → Bool) (before after : List ℕ) (m next : ℕ) → in_rows before ≡ leads r m → in_rows after ≡ through (in_rows before) m → next ≡ suc m
    → in_rows after ≡ leads r next
led_more r before after m next so_far adds is = adds ∙ ap (λ q. through q m) so_far ∙ ap (leads r) (sym is)

-- whether a number below n has the property
below_decides : (f : ℕ → Bool) (n : ℕ) → Decides (some_below f n) ((k : ℕ) × (k < n) × (f k ≡ true))
below_decides f = Decides-below_or f (λ k. f k ≡ true) (some_below f) (λ k. (λ e. e, λ e. e)) refl (λ n. refl)

pub found_below : (f : ℕ → Bool) (n k : ℕ) → k < n → f k ≡ true → true ≡ some_below f n
found_below f n k below is = sym ((below_decides f n).1 (k, below, is))

pub none_below : (f : ℕ → Bool) (n k : ℕ) → n ≤ k → ((j : ℕ) → j < k → f j ≡ false) → false ≡ some_below f n
none_below f zero k ended none = refl
none_below f (suc n) k ended none = none_below f n k (omega (arith, ended)) none ∙ sym (ap (λ b. b || some_below f n) (none n (omega (arith, ended))))
