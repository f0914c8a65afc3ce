-- Members of lists that are the same but for their order.
use Rattle.std.proofs.Common.{◌≡◌, inl, inr, ℕ, zero, suc, ◌+◌, ◌<◌, ◌≤◌, Bool, true, false, List, [], ◌∷◌, refl, sym, ap, ◌∙◌, subst, arith, Contains}
use Rattle.std.specs.Prelude.{nat_eq, if◌then◌else◌, IsPermutation}
use Rattle.std.specs.List.{filter, sum_by}
use Rattle.std.proofs.lemmas.List.Sorted.{Contains-permutation, IsPermutation-sym, sum_by-IsPermutation}
use Rattle.std.proofs.lemmas.List.Sums.{sum_by-cons}
use Rattle.dataflow.specs.System.{Distinct, In}
use Rattle.board_history.proofs.Next.{nat_same, nat_sound}
use Rattle.board_history.proofs.Tests.{choose, in_kept, yes_no}

in_contains : {X : Type 0} (xs : List X) (x : X) → In x xs → Contains xs x
in_contains [] x h = absurd h
in_contains (y ∷ xs) x (inl e) = (0, omega arith, sym e)
in_contains (y ∷ xs) x (inr h) = let c = in_contains xs x h in let l = c.1 in (suc c.0, omega arith, c.2)

contains_in : {X : Type 0} (xs : List X) (x : X) → Contains xs x → In x xs
contains_in [] x c = let l = c.1 in absurd (omega arith)
contains_in (y ∷ xs) x (zero, l, e) = inl (sym e)
contains_in (y ∷ xs) x (suc k, l, e) = inr (contains_in xs x (k, omega arith, e))

pub in_moved : {X : Type 0} (xs ys : List X) (x : X) → IsPermutation xs ys → In x xs → In x ys
in_moved xs ys x p h = contains_in ys x (Contains-permutation xs ys x p (in_contains xs x h))

pub in_back : {X : Type 0} (xs ys : List X) (x : X) → IsPermutation xs ys → In x ys → In x xs
in_back xs ys x p h = in_moved ys xs x (IsPermutation-sym xs ys p) h

-- how often a number stands in a list
abbrev one : ℕ → ℕ → ℕ
one n m = if nat_eq n m then 1 else 0

abbrev times : ℕ → List ℕ → ℕ
times n [] = 0
times n (m ∷ ms) = one n m + times n ms

times_sum : (n : ℕ) (ms : List ℕ) → times n ms ≡ sum_by (one n) ms
times_sum n [] = refl
times_sum n (m ∷ ms) = ap (λ (k : ℕ). one n m + k) (times_sum n ms) ∙ sym (sum_by-cons (one n) m ms)

times_moved : (n : ℕ) (xs ys : List ℕ) → IsPermutation xs ys → times n ys ≡ times n xs
times_moved n xs ys p = times_sum n ys ∙ sum_by-IsPermutation (one n) xs ys p ∙ sym (times_sum n xs)

is_one : (n m : ℕ) → n ≡ m → one n m ≡ 1
is_one n m e = choose (λ (k : ℕ). k ≡ 1) (nat_eq n m) 1 0 (λ t. refl) (λ f. yes_no (subst (λ (k : ℕ). nat_eq n k ≡ true) e (nat_same n)) f)

is_none : (n m : ℕ) → (n ≡ m → ⊥) → one n m ≡ 0
is_none n m d = choose (λ (k : ℕ). k ≡ 0) (nat_eq n m) 1 0 (λ t. absurd (d (nat_sound n m t))) (λ f. refl)

times_some : (n : ℕ) (ms : List ℕ) → In n ms → 0 < times n ms
times_some n [] h = absurd h
times_some n (m ∷ ms) (inl e) = let o = is_one n m e in omega arith
times_some n (m ∷ ms) (inr h) = let o = times_some n ms h in omega arith

times_none : (n : ℕ) (ms : List ℕ) → (In n ms → ⊥) → times n ms ≡ 0
times_none n [] h = refl
times_none n (m ∷ ms) h = let a = is_none n m (λ e. h (inl e)) in let b = times_none n ms (λ i. h (inr i)) in omega arith

few_times : (ms : List ℕ) → Distinct ms → (n : ℕ) → times n ms ≤ 1
few_times [] d n = omega arith
few_times (m ∷ ms) d n = by (nat_eq n m) refl (few_times ms d.1 n)
  where
    by : (b : Bool) → nat_eq n m ≡ b → times n ms ≤ 1 → times n (m ∷ ms) ≤ 1
    by true e z = let s = nat_sound n m e in let a = is_one n m s in let y = times_none n ms (λ i. d.0 (subst (λ (k : ℕ). In k ms) s i)) in omega arith
    by false e z = let a = is_none n m (λ s. yes_no (subst (λ (k : ℕ). nat_eq n k ≡ true) s (nat_same n)) e) in omega arith

once_each : (ms : List ℕ) → ((n : ℕ) → times n ms ≤ 1) → Distinct ms
once_each [] h = tt
once_each (m ∷ ms) h =
    ((λ i. let a = times_some m ms i in let b = is_one m m refl in let c = h m in absurd (omega arith)), once_each ms (λ n. let c = h n in omega arith))

pub distinct_moved : (xs ys : List ℕ) → IsPermutation xs ys → Distinct xs → Distinct ys
distinct_moved xs ys p d = once_each ys (λ n. subst (λ (k : ℕ). k ≤ 1) (sym (times_moved n xs ys p)) (few_times xs d n))

pub distinct_kept : {X : Type 0} (p : X → Bool) (xs : List X) → Distinct xs → Distinct (filter p xs)
distinct_kept p [] d = tt
distinct_kept {X} p (x ∷ xs) d =
    choose (λ (l : List X). Distinct l) (p x) (x ∷ filter p xs) (filter p xs)
    (λ t. ((λ i. d.0 (in_kept p x xs i).0), distinct_kept p xs d.1))
    (λ f. distinct_kept p xs d.1)
