-- How often a number stands in a list, and sums over lists.
use Rattle.std.proofs.Common.{◌≡◌, ◌⊎◌, inl, inr, ℕ, zero, suc, ◌+◌, ◌≤◌, Bool, true, false, not, cond, nat_eq, List, [], ◌∷◌, ◌++◌, map, length, refl, ap, subst, arith}
use Rattle.std.specs.List.{flat_map}
use Rattle.std.proofs.lemmas.Bool.{eqb-true, and_parts}
use Rattle.dataflow.specs.System.{In, Distinct}
use Rattle.language.specs.Members.{◌∈◌, first, later}
use Rattle.language.proofs.Tested.{has_in, self_eq}
use Rattle.language.specs.Distinct.{has, distinct}

-- MEMBERS

pub in_member : {X : Type 0} (x : X) (xs : List X) → In x xs → x ∈ xs
in_member x [] h = absurd h
in_member x (y ∷ ys) (inl e) = subst (λ z. x ∈ (z ∷ ys)) e first
in_member x (y ∷ ys) (inr h) = later (in_member x ys h)

pub member_in : {X : Type 0} {x : X} {xs : List X} → x ∈ xs → In x xs
member_in first = inl refl
member_in (later m) = inr (member_in m)

-- SUMS

abbrev pub total : {X : Type 0} → (X → ℕ) → List X → ℕ
total w [] = 0
total w (x ∷ xs) = w x + total w xs

pub total-append : {X : Type 0} (w : X → ℕ) (xs ys : List X) → total w (xs ++ ys) ≡ total w xs + total w ys
total-append w [] ys = omega arith
total-append w (x ∷ xs) ys = let e = total-append w xs ys in omega arith

pub total_one : {X : Type 0} (xs : List X) → total (λ (x : X). 1) xs ≡ length xs
total_one [] = refl
total_one (x ∷ xs) = let e = total_one xs in omega arith

pub total_zero : {X : Type 0} (w : X → ℕ) (xs : List X) → ((x : X) → x ∈ xs → w x ≡ 0) → total w xs ≡ 0
total_zero w [] h = refl
total_zero w (x ∷ xs) h = let a = h x first in let b = total_zero w xs (λ y m. h y (later m)) in omega arith

pub total_le : {X : Type 0} (w v : X → ℕ) (xs : List X) → ((x : X) → x ∈ xs → w x ≤ v x) → total w xs ≤ total v xs
total_le w v [] h = omega arith
total_le w v (x ∷ xs) h = let a = h x first in let b = total_le w v xs (λ y m. h y (later m)) in omega arith

pub total_plus : {X : Type 0} (w v : X → ℕ) (xs : List X) → total (λ x. w x + v x) xs ≡ total w xs + total v xs
total_plus w v [] = refl
total_plus w v (x ∷ xs) = let a = total_plus w v xs in omega arith

-- a member counts
pub total_member : {X : Type 0} (w : X → ℕ) {x : X} {xs : List X} → x ∈ xs → w x ≤ total w xs
total_member w (first {x = x} {xs = xs}) = omega arith
total_member w (later {y = y} {xs = xs} m) = let a = total_member w m in omega arith

-- HOW OFTEN A NUMBER STANDS IN A LIST

pub hit : ℕ → ℕ → ℕ
hit n x = cond (nat_eq n x) 1 0

pub hit_same : (n x : ℕ) → n ≡ x → hit n x ≡ 1
unfolding hit
hit_same n x e = ap (λ (b : Bool). cond b 1 0) (subst (λ z. nat_eq n z ≡ true) e (self_eq n))

pub hit_split : (n x : ℕ) → ((n ≡ x) × (hit n x ≡ 1)) ⊎ (hit n x ≡ 0)
unfolding hit
hit_split n x = by (nat_eq n x) refl
  where
    by : (b : Bool) → nat_eq n x ≡ b → ((n ≡ x) × (hit n x ≡ 1)) ⊎ (hit n x ≡ 0)
    by true e = inl (eqb-true n x e, ap (λ (b : Bool). cond b 1 0) e)
    by false e = inr (ap (λ (b : Bool). cond b 1 0) e)

abbrev pub count : ℕ → List ℕ → ℕ
count n xs = total (hit n) xs

pub in_count : {n : ℕ} {xs : List ℕ} → n ∈ xs → 1 ≤ count n xs
in_count (first {x = x} {xs = xs}) = let a = hit_same x x refl in omega arith
in_count {n} (later {y = y} {xs = xs} m) = let a = in_count m in omega arith

pub count_in : (n : ℕ) (xs : List ℕ) → 1 ≤ count n xs → n ∈ xs
count_in n [] h = absurd (omega arith)
count_in n (x ∷ xs) h = by (hit_split n x) (λ k. count_in n xs k)
  where
    by : ((n ≡ x) × (hit n x ≡ 1)) ⊎ (hit n x ≡ 0) → (1 ≤ count n xs → n ∈ xs) → n ∈ (x ∷ xs)
    by (inl e) rec = subst (λ z. n ∈ (z ∷ xs)) e.0 first
    by (inr e) rec = later (rec (omega arith))

zero_or : (m : ℕ) → (m ≡ 0) ⊎ (1 ≤ m)
zero_or zero = inl refl
zero_or (suc m) = inr (omega arith)

pub distinct_count : (xs : List ℕ) → Distinct xs → (n : ℕ) → count n xs ≤ 1
distinct_count [] h n = omega arith
distinct_count (x ∷ xs) h n = by (hit_split n x) (zero_or (count n xs)) (distinct_count xs h.1 n)
  where
    by : ((n ≡ x) × (hit n x ≡ 1)) ⊎ (hit n x ≡ 0) → (count n xs ≡ 0) ⊎ (1 ≤ count n xs) → count n xs ≤ 1 → hit n x + count n xs ≤ 1
    by (inl e) (inl z) r = let a = e.1 in omega arith
    by (inl e) (inr z) r = absurd (h.0 (subst (λ y. In y xs) e.0 (member_in (count_in n xs z))))
    by (inr e) z r = omega arith

pub count_distinct : (xs : List ℕ) → ((n : ℕ) → count n xs ≤ 1) → Distinct xs
count_distinct [] h = tt
count_distinct (x ∷ xs) h = (λ i. (let a = in_count (in_member x xs i) in let b = h x in let d = hit_same x x refl in absurd (omega arith)), count_distinct xs (λ n. (let b = h n in omega arith)))

not_true : (a : Bool) → not a ≡ true → a ≡ true → ⊥
not_true true h k = absurd (cc (h))
not_true false h k = absurd (cc (k))

pub test_distinct : (xs : List ℕ) → distinct xs ≡ true → Distinct xs
test_distinct [] h = tt
test_distinct (x ∷ xs) h =
    let p = and_parts (not (has x xs)) (distinct xs) h in
    (λ i. not_true (has x xs) p.0 (has_in (in_member x xs i)), test_distinct xs p.1)

-- a list made of parts
pub count_flat : {X : Type 0} (f : X → List ℕ) (n : ℕ) (xs : List X) → count n (flat_map f xs) ≡ total (λ x. count n (f x)) xs
count_flat f n [] = refl
count_flat f n (x ∷ xs) = let a = total-append (hit n) (f x) (flat_map f xs) in let b = count_flat f n xs in omega arith

pub count_map : {X : Type 0} (f : X → ℕ) (n : ℕ) (xs : List X) → count n (map f xs) ≡ total (λ x. hit n (f x)) xs
count_map f n [] = refl
count_map f n (x ∷ xs) = let b = count_map f n xs in omega arith
