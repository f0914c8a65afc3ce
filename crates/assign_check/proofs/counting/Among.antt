-- How often a variable stands among others.
use Rattle.std.proofs.Common.{◌≡◌, ℕ, ◌+◌, ◌-◌, ◌≤◌, List, [], ◌∷◌, ◌++◌, Bool, true, false, suc, cond, nat_lt, length, refl, ap, sym, ◌∙◌, subst, arith}
use Rattle.std.specs.Prelude.{◌||◌}
use Rattle.std.proofs.lemmas.Grind.{common_steps}
use Rattle.language.specs.Core.{Owned}
use Rattle.assign_check.specs.Faults.{same, one_if, times, is_among}
use Rattle.assign_check.proofs.counting.Counts.{same_is, same_self, times_append}

pub among_times : (x : Owned) (ys : List Owned) → nat_lt 0 (times x ys) ≡ is_among x ys
among_times x [] = refl
among_times x (y ∷ ys) = by_first (same y x) (times x ys) (is_among x ys) (among_times x ys)
  where
    by_first : (b : Bool) (n : ℕ) (a : Bool) → nat_lt 0 n ≡ a → nat_lt 0 (one_if b + n) ≡ (b || a)
    by_first true n a e = grind (arith, common_steps)
    by_first false n a e = let z : n ≡ 0 + n = omega arith in subst (λ (k : ℕ). nat_lt 0 k ≡ a) z e

pub times_le : (x : Owned) (xs : List Owned) → times x xs ≤ length xs
times_le x [] = omega arith
times_le x (y ∷ ys) = let e = times_le x ys in by_one (same y x) (times x ys) (length ys) e
  where
    by_one : (b : Bool) (n m : ℕ) → n ≤ m → one_if b + n ≤ suc m
    by_one true n m e = omega arith
    by_one false n m e = omega arith

-- COUNTS THAT ARE KEPT

one_behind : (y x : Owned) (xs : List Owned) → times y (xs ++ x ∷ []) ≡ times y xs + one_if (same x y)
one_behind y x xs = let e = times_append y xs (x ∷ []) in omega arith

pub pushed_times : (f g : Owned → ℕ) (x : Owned) (xs : List Owned) (k : ℕ) → k ≡ f x → ((y : Owned) → f y ≡ times y xs) → ((y : Owned) → g y ≡ cond (same x y) (k + 1) (f y))
    → (y : Owned) → g y ≡ times y (xs ++ x ∷ [])
pushed_times f g x xs k is counts adds y = adds y ∙ either (same x y) refl ∙ sym (one_behind y x xs)
  where
    either : (b : Bool) → same x y ≡ b → cond b (k + 1) (f y) ≡ times y xs + one_if b
    either true h = ap (λ (n : ℕ). n + 1) (is ∙ ap f (same_is x y h) ∙ counts y)
    either false h = let e = counts y in omega arith

pub last_counted : (f : Owned → ℕ) (x : Owned) (xs : List Owned) → ((y : Owned) → f y ≡ times y (xs ++ x ∷ [])) → f x ≡ times x xs + 1
last_counted f x xs counts = counts x ∙ one_behind x x xs ∙ ap (λ (b : Bool). times x xs + one_if b) (same_self x)

pub popped_times : (f g : Owned → ℕ) (x : Owned) (xs : List Owned) (k : ℕ) → k ≡ f x → ((y : Owned) → f y ≡ times y (xs ++ x ∷ [])) → ((y : Owned) → g y ≡ cond (same x y) (k - 1) (f y))
    → (y : Owned) → g y ≡ times y xs
popped_times f g x xs k was counts takes y = takes y ∙ either (same x y) refl
  where
    either : (b : Bool) → same x y ≡ b → cond b (k - 1) (f y) ≡ times y xs
    either true h =
        let there = last_counted f x xs counts in
        let is = ap (λ (z : Owned). times z xs) (same_is x y h) in
        omega arith
    either false h = counts y ∙ one_behind y x xs ∙ ap (λ (b : Bool). times y xs + one_if b) h ∙ nothing (times y xs)
      where
        nothing : (n : ℕ) → n + 0 ≡ n
        nothing n = omega arith
