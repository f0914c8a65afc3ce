-- What slots in a row find, and what slots and a table find together.
use Rattle.std.proofs.Common.{◌≡◌, ◌∙◌, sym, ap, subst, inl, inr, ℕ, zero, suc, ◌<◌, ◌≤◌, ◌+◌, List, [], ◌∷◌, ◌++◌, length, length-append, None, Some, true, false, arith, refl}
use Rattle.std.specs.Prelude.{Option, ℤ, pos, negsuc, Bool, is_some, slice_set, slice_index_or, if◌then◌else◌}
use Rattle.std.specs.Option.{option_or}
use Rattle.std.specs.Map.{lookup}
use Rattle.std.specs.Ordering.{int_eq}
use Rattle.std.proofs.lemmas.Bool.{cases_Bool, cases_lt}
use Rattle.std.proofs.lemmas.Int.{ints}
use Rattle.std.proofs.lemmas.List.{get_or-set_other, get_or-set_same}
use Rattle.values.specs.declared.value.Scalar.{Scalar}
use Rattle.values.specs.declared.key.Key.TheVariants.{Number}
use Rattle.values.proofs.Keys.{same_key-eq}
use Rattle.data_store.specs.Filled.{filled, IsPut}

pos_same : (m n : ℕ) → m ≡ n → int_eq (pos m) (pos n) ≡ true
pos_same m n e = grind (arith, ints, e)

pos_apart : (m n : ℕ) → (m ≡ n → ⊥) → int_eq (pos m) (pos n) ≡ false
pos_apart m n h = grind (arith, ints, h)

-- a key in front of the first slot finds nothing
before_all : (m n : ℕ) (xs : List (Option Scalar)) → m < n → lookup (int_eq (pos m)) (filled n xs) ≡ None
before_all m n [] l = refl
before_all m n (None ∷ xs) l = before_all m (suc n) xs (omega (arith, l))
before_all m n (Some v ∷ xs) l = rw (pos_apart m n (λ e. omega (arith, e, l))) (before_all m (suc n) xs (omega (arith, l)))

from_place : (m n j : ℕ) (xs : List (Option Scalar)) → m ≡ n + j → lookup (int_eq (pos m)) (filled n xs) ≡ slice_index_or xs j None
from_place m n j [] e = refl
from_place m n zero (None ∷ xs) e = before_all m (suc n) xs (omega (arith, e))
from_place m n zero (Some v ∷ xs) e = rw (pos_same m n (omega (arith, e))) refl
from_place m n (suc j) (None ∷ xs) e = from_place m (suc n) j xs (omega (arith, e))
from_place m n (suc j) (Some v ∷ xs) e = rw (pos_apart m n (λ q. omega (arith, e, q))) (from_place m (suc n) j xs (omega (arith, e)))

-- a key finds what the slot at its place holds
pub at_place : (j : ℕ) (xs : List (Option Scalar)) → lookup (int_eq (pos j)) (filled 0 xs) ≡ slice_index_or xs j None
at_place j xs = from_place j 0 j xs (omega arith)

below_all : (m n : ℕ) (xs : List (Option Scalar)) → lookup (int_eq (negsuc m)) (filled n xs) ≡ None
below_all m n [] = refl
below_all m n (None ∷ xs) = below_all m (suc n) xs
below_all m n (Some v ∷ xs) = below_all m (suc n) xs

-- and nothing, if it is negative
pub at_no_place : (m : ℕ) (xs : List (Option Scalar)) → lookup (int_eq (negsuc m)) (filled 0 xs) ≡ None
at_no_place m xs = below_all m 0 xs

-- the first slot and the others
pub first_and_rest : (n : ℕ) (x : Option Scalar) (xs : List (Option Scalar)) → filled n (x ∷ xs) ≡ filled n (x ∷ []) ++ filled (suc n) xs
first_and_rest n None xs = refl
first_and_rest n (Some v) xs = refl

-- one more slot that is not taken
pub one_slot_more : (n : ℕ) (xs : List (Option Scalar)) → filled n (xs ++ None ∷ []) ≡ filled n xs
one_slot_more n [] = refl
one_slot_more n (None ∷ xs) = one_slot_more (suc n) xs
one_slot_more n (Some v ∷ xs) = ap (λ es. (pos n, v) ∷ es) (one_slot_more (suc n) xs)

pub length_filled : (n : ℕ) (xs : List (Option Scalar)) → length (filled n xs) ≤ length xs
length_filled n [] = omega arith
length_filled n (None ∷ xs) = omega (arith, length_filled (suc n) xs)
length_filled n (Some v ∷ xs) = omega (arith, length_filled (suc n) xs)

length_more : (n j : ℕ) (v : Scalar) (xs : List (Option Scalar)) → j < length xs → slice_index_or xs j None ≡ None → length (filled n (slice_set xs j (Some v))) ≡ length (filled n xs) + 1
length_more n j v [] l h = absurd (omega (arith, l))
length_more n zero v (None ∷ xs) l h = omega arith
length_more n zero v (Some w ∷ xs) l h = absurd (some_none w h) where
  some_none : (w : Scalar) → ◌≡◌ {A = Option Scalar} (Some w) None → ⊥
  some_none w e = cc
length_more n (suc j) v (None ∷ xs) l h = length_more (suc n) j v xs (omega (arith, l)) h
length_more n (suc j) v (Some w ∷ xs) l h = omega (arith, length_more (suc n) j v xs (omega (arith, l)) h)

finds_more : (j : ℕ) (v : Scalar) (xs : List (Option Scalar)) → j < length xs → (q : ℤ) → lookup (int_eq q) (filled 0 (slice_set xs j (Some v))) ≡ (if int_eq (pos j) q then Some v else lookup (int_eq q) (filled 0 xs))
finds_more j v xs l (pos m) = elim (cases_Bool (int_eq (pos j) (pos m))) [
  | inl same ↦
      let e : m ≡ j = pos_is j m same in
      rw same (at_place m (slice_set xs j (Some v)) ∙ subst (λ i. slice_index_or (slice_set xs j (Some v)) i None ≡ Some v) (sym e) (get_or-set_same xs j (Some v) None l))
  | inr other ↦ rw other (at_place m (slice_set xs j (Some v)) ∙ get_or-set_other xs j m (Some v) None (λ e. differ j m other e) ∙ sym (at_place m xs))
] where
  pos_is : (j m : ℕ) → int_eq (pos j) (pos m) ≡ true → m ≡ j
  pos_is j m s = grind (arith, ints, s)

  differ : (j m : ℕ) → int_eq (pos j) (pos m) ≡ false → m ≡ j → ⊥
  differ j m o e = grind (arith, ints, o, e)
finds_more j v xs l (negsuc m) = at_no_place m (slice_set xs j (Some v)) ∙ sym (at_no_place m xs)

-- what a key of a place finds, and what no other key does
pub found_at : (key : ℤ) (j : ℕ) (r : Option Scalar) (xs : List (Option Scalar)) → key ≡ pos j → r ≡ slice_index_or xs j None → r ≡ lookup (int_eq key) (filled 0 xs)
found_at key j r xs is at = subst (λ k. r ≡ lookup (int_eq k) (filled 0 xs)) (sym is) (at ∙ sym (at_place j xs))

behind_all : (j : ℕ) (xs : List (Option Scalar)) → length xs ≤ j → slice_index_or xs j None ≡ None
behind_all j [] l = refl
behind_all zero (x ∷ xs) l = absurd (omega (arith, l))
behind_all (suc j) (x ∷ xs) l = behind_all j xs (omega (arith, l))

pub found_nowhere : (most : ℕ) (key : ℤ) (xs : List (Option Scalar)) → ((j : ℕ) → j < most → key ≡ pos j → ⊥) → length xs ≤ most → None ≡ lookup (int_eq key) (filled 0 xs)
found_nowhere most (pos n) xs h l = elim (cases_lt n most) [
  | inl less ↦ absurd (h n less refl)
  | inr more ↦ sym (at_place n xs ∙ behind_all n xs (omega (arith, l, more)))
]
found_nowhere most (negsuc n) xs h l = sym (at_no_place n xs)

put_in_slot : (key : ℤ) (j : ℕ) (v : Scalar) (xs : List (Option Scalar)) → key ≡ pos j → j < length xs → lookup (int_eq key) (filled 0 xs) ≡ None → IsPut key v (filled 0 xs) (filled 0 (slice_set xs j (Some v)))
put_in_slot key j v xs is l absent =
    let free : slice_index_or xs j None ≡ None = sym (at_place j xs) ∙ subst (λ k. lookup (int_eq k) (filled 0 xs) ≡ None) is absent in
    subst (λ k. IsPut k v (filled 0 xs) (filled 0 (slice_set xs j (Some v)))) (sym is) (record { finds = finds_more j v xs l; longer = length_more 0 j v xs l free })

-- a slot that is taken, once there are more of them
pub put_in_more : (key : ℤ) (j : ℕ) (v : Scalar) (xs ys : List (Option Scalar)) → filled 0 ys ≡ filled 0 xs → key ≡ pos j → j < length ys → lookup (int_eq key) (filled 0 xs) ≡ None
    → IsPut key v (filled 0 xs) (filled 0 (slice_set ys j (Some v)))
put_in_more key j v xs ys same is l absent =
    subst (λ es. IsPut key v es (filled 0 (slice_set ys j (Some v)))) same
    (put_in_slot key j v ys is l (subst (λ es. lookup (int_eq key) es ≡ None) (sym same) absent))

-- what the first pairs find, or else the others
pub lookup_both : (test : ℤ → Bool) (es fs : List (ℤ × Scalar)) → lookup test (es ++ fs) ≡ option_or (lookup test es) (lookup test fs)
lookup_both test [] fs = refl
lookup_both test (e ∷ es) fs = elim (cases_Bool (test e.0)) [
  | inl passes ↦ rw passes refl
  | inr fails ↦ rw fails (lookup_both test es fs)
]

either_first : (b : Bool) (v : Scalar) (a more other : Option Scalar) → more ≡ (if b then Some v else a) → option_or more other ≡ (if b then Some v else option_or a other)
either_first true v a more other e = ap (λ o. option_or o other) e
either_first false v a more other e = ap (λ o. option_or o other) e

either_second : (b : Bool) (v : Scalar) (a other more : Option Scalar) → (b ≡ true → a ≡ None) → more ≡ (if b then Some v else other) → option_or a more ≡ (if b then Some v else option_or a other)
either_second true v a other more absent e = ap (λ o. option_or o more) (absent refl) ∙ e
either_second false v a other more absent e = ap (λ o. option_or a o) e

same_number : (a b : ℤ) → Number a ≡ Number b → a ≡ b
same_number a b e = cc

-- one more pair among the first, or among the others
pub put_first : (key : ℤ) (v : Scalar) (es more fs : List (ℤ × Scalar)) → IsPut key v es more → IsPut key v (es ++ fs) (more ++ fs)
put_first key v es more fs put = record { finds = finds; longer = grind (arith, length-append, put.longer) } where
  finds : (q : ℤ) → lookup (int_eq q) (more ++ fs) ≡ (if int_eq key q then Some v else lookup (int_eq q) (es ++ fs))
  finds q =
      lookup_both (int_eq q) more fs
      ∙ either_first (int_eq key q) v (lookup (int_eq q) es) (lookup (int_eq q) more) (lookup (int_eq q) fs) (put.finds q)
      ∙ ap (λ o. if int_eq key q then Some v else o) (sym (lookup_both (int_eq q) es fs))

pub put_second : (key : ℤ) (v : Scalar) (es fs more : List (ℤ × Scalar)) → lookup (int_eq key) es ≡ None → IsPut key v fs more → IsPut key v (es ++ fs) (es ++ more)
put_second key v es fs more absent put = record { finds = finds; longer = grind (arith, length-append, put.longer) } where
  none : (q : ℤ) → int_eq key q ≡ true → lookup (int_eq q) es ≡ None
  none q e = subst (λ k. lookup (int_eq k) es ≡ None) (same_number key q (same_key-eq (Number key) (Number q) e)) absent

  finds : (q : ℤ) → lookup (int_eq q) (es ++ more) ≡ (if int_eq key q then Some v else lookup (int_eq q) (es ++ fs))
  finds q =
      lookup_both (int_eq q) es more
      ∙ either_second (int_eq key q) v (lookup (int_eq q) es) (lookup (int_eq q) fs) (lookup (int_eq q) more) (none q) (put.finds q)
      ∙ ap (λ o. if int_eq key q then Some v else o) (sym (lookup_both (int_eq q) es fs))

-- what they find together
pub found_first : (test : ℤ → Bool) (es fs : List (ℤ × Scalar)) (v : Scalar) → Some v ≡ lookup test es → Some v ≡ lookup test (es ++ fs)
found_first test es fs v e = ap (λ o. option_or o (lookup test fs)) e ∙ sym (lookup_both test es fs)

pub found_second : (test : ℤ → Bool) (es fs : List (ℤ × Scalar)) (o : Option Scalar) → None ≡ lookup test es → o ≡ lookup test fs → o ≡ lookup test (es ++ fs)
found_second test es fs o e f = f ∙ ap (λ p. option_or p (lookup test fs)) e ∙ sym (lookup_both test es fs)

none_first : (o p : Option Scalar) → option_or o p ≡ None → o ≡ None
none_first None p e = refl
none_first (Some v) p e = absurd (cc (e))

none_second : (o p : Option Scalar) → option_or o p ≡ None → p ≡ None
none_second None p e = e
none_second (Some v) p e = absurd (cc (e))

pub absent_first : (test : ℤ → Bool) (es fs : List (ℤ × Scalar)) → lookup test (es ++ fs) ≡ None → lookup test es ≡ None
absent_first test es fs e = none_first (lookup test es) (lookup test fs) (sym (lookup_both test es fs) ∙ e)

-- one more pair among the others, as a table says it
pub put_in_table : (key : ℤ) (v : Scalar) (es fs more : List (ℤ × Scalar)) (old : Option Scalar) → lookup (int_eq key) (es ++ fs) ≡ None → old ≡ lookup (int_eq key) fs
    → ((q : ℤ) → lookup (int_eq q) more ≡ (if int_eq key q then Some v else lookup (int_eq q) fs)) → length more ≡ length fs + (if is_some old then 0 else 1) → IsPut key v (es ++ fs) (es ++ more)
put_in_table key v es fs more old absent o finds longer =
    let none : old ≡ None = o ∙ none_second (lookup (int_eq key) es) (lookup (int_eq key) fs) (sym (lookup_both (int_eq key) es fs) ∙ absent) in
    put_second key v es fs more (absent_first (int_eq key) es fs absent)
    (record { finds = finds; longer = longer ∙ ap (λ (o : Option Scalar). length fs + (if is_some o then 0 else 1)) none })

-- the others in another order
pub same_second : (es fs more : List (ℤ × Scalar)) → ((q : ℤ) → lookup (int_eq q) more ≡ lookup (int_eq q) fs) → (q : ℤ) → lookup (int_eq q) (es ++ more) ≡ lookup (int_eq q) (es ++ fs)
same_second es fs more h q = lookup_both (int_eq q) es more ∙ ap (λ o. option_or (lookup (int_eq q) es) o) (h q) ∙ sym (lookup_both (int_eq q) es fs)

pub length_second : (es fs more : List (ℤ × Scalar)) → length more ≡ length fs → length (es ++ more) ≡ length (es ++ fs)
length_second es fs more e = grind (arith, length-append, e)
