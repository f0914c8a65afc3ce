-- How many names entries have at most.
use Rattle.std.proofs.Common.{◌≡◌, ℕ, zero, suc, ◌+◌, ◌<◌, ◌≤◌, true, false, Bool, List, [], ◌∷◌, length, refl, sym, subst, arith}
use Rattle.std.specs.Prelude.{nat_lt}
use Rattle.std.proofs.lemmas.Bool.Decides.{nat_tests}
use Rattle.task_code.specs.Code.{Code, Entry, blank_entry, entry, nth}

nth_past : {X : Type 0} (d : X) (xs : List X) (n : ℕ) → length xs ≤ n → nth d xs n ≡ d
nth_past d [] n h = refl
nth_past d (x ∷ xs) zero h = absurd (omega (arith, h))
nth_past d (x ∷ xs) (suc n) h = nth_past d xs n (omega (arith, h))

-- one that is not there
pub entry_past : (C : Code) (n : ℕ) → length C.entries ≤ n → entry C n ≡ blank_entry
entry_past C n h = nth_past blank_entry C.entries n h

-- it has no names
pub reads_past : (C : Code) (n most : ℕ) → length C.entries ≤ n → length (entry C n).reads ≤ most
reads_past C n most h = subst (λ (e : Entry). length e.reads ≤ most) (sym (entry_past C n h)) (omega arith)

pub writes_past : (C : Code) (n most : ℕ) → length C.entries ≤ n → length (entry C n).writes ≤ most
writes_past C n most h = subst (λ (e : Entry). length e.writes ≤ most) (sym (entry_past C n h)) (omega arith)

-- one more is looked at
pub one_wider : (f : ℕ → ℕ) (n most : ℕ) → ((i : ℕ) → i < n → f i ≤ most) → (k : ℕ) → most ≤ k → f n ≤ k → (i : ℕ) → i < n + 1 → f i ≤ k
one_wider f n most all k wide here i l = by (nat_lt i n) refl
  where
    by : (b : Bool) → nat_lt i n ≡ b → f i ≤ k
    by true e = let g : i < n = grind (arith, nat_tests) in let h = all i g in omega (arith, h, wide)
    by false e = let g : n ≡ i = grind (arith, nat_tests) in subst (λ j. f j ≤ k) g here

-- all are looked at
pub all_looked : (f : ℕ → ℕ) (n most : ℕ) → ((i : ℕ) → i < n → f i ≤ most) → ((i : ℕ) → n ≤ i → f i ≤ most) → (i : ℕ) → f i ≤ most
all_looked f n most all past i = by (nat_lt i n) refl
  where
    by : (b : Bool) → nat_lt i n ≡ b → f i ≤ most
    by true e = all i (grind (arith, nat_tests))
    by false e = past i (grind (arith, nat_tests))
