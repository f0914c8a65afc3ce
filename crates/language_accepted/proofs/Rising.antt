-- Numbers that rise: none stands twice, and those of a text do.
use Rattle.std.specs.Prelude.{◌≡◌, ℕ, zero, suc, ◌+◌, ◌<◌, ◌≤◌, Bool, true, false, not, ◌&&◌, ◌||◌, List, [], ◌∷◌, ◌++◌, nat_eq, refl}
use Rattle.std.proofs.Common.{ap, arith}
use Rattle.std.proofs.lemmas.Bool.{eqb-true}
use Rattle.language.specs.Numbers.{numbers_from}
use Rattle.language.specs.Distinct.{distinct}
use Rattle.language.proofs.TreeNumbers.{hit, hit_self, times, few_distinct, distinct_few}
use Rattle.language_accepted.specs.Placed.{Rise}

-- HOW OFTEN A NUMBER STANDS

hit_false : (n m : ℕ) → nat_eq n m ≡ false → hit n m ≡ 0
hit_false n m e =
    let d = distinct_few (n ∷ m ∷ []) (ap (λ (b : Bool). not (b || false) && (not false && true)) e) n in
    let h = hit_self n in
    omega arith

pub hit_most : (n m : ℕ) → hit n m ≤ 1
hit_most n m = let d = distinct_few (m ∷ []) refl n in omega arith

-- the two are one number, or not
pub here_or_none : (n m : ℕ) (A : Type 0) → (n ≡ m → A) → (hit n m ≡ 0 → A) → A
here_or_none n m A f g = by (nat_eq n m) refl
  where
    by : (b : Bool) → nat_eq n m ≡ b → A
    by true e = f (eqb-true n m e)
    by false e = g (hit_false n m e)

pub hit_other : (n m : ℕ) → n < m → hit n m ≡ 0
hit_other n m l = here_or_none n m (hit n m ≡ 0) (λ e. absurd (omega arith)) (λ e. e)

-- RISING NUMBERS

-- the last of them, or this one
abbrev pub last : ℕ → List ℕ → ℕ
last n [] = n
last n (m ∷ ms) = last m ms

pub rise_least : (n : ℕ) (ms : List ℕ) → Rise n ms → n ≤ last n ms
rise_least n [] h = omega arith
rise_least n (m ∷ ms) h = let l = h.0 in let r = rise_least m ms h.1 in omega arith

pub rise_front : (n : ℕ) (ms ks : List ℕ) → Rise n (ms ++ ks) → Rise n ms
rise_front n [] ks h = tt
rise_front n (m ∷ ms) ks h = (h.0, rise_front m ms ks h.1)

pub rise_rest : (n : ℕ) (ms ks : List ℕ) → Rise n (ms ++ ks) → Rise (last n ms) ks
rise_rest n [] ks h = h
rise_rest n (m ∷ ms) ks h = rise_rest m ms ks h.1

pub last_append : (n : ℕ) (ms ks : List ℕ) → last n (ms ++ ks) ≡ last (last n ms) ks
last_append n [] ks = refl
last_append n (m ∷ ms) ks = last_append m ms ks

none_below : (k n : ℕ) (ms : List ℕ) → Rise n ms → k ≤ n → times k ms ≡ 0
none_below k n [] h l = refl
none_below k n (m ∷ ms) h l =
    let a = h.0 in
    let q = none_below k m ms h.1 (omega arith) in
    let r = hit_other k m (omega arith) in
    omega arith

rise_few : (k n : ℕ) (ms : List ℕ) → Rise n ms → times k (n ∷ ms) ≤ 1
rise_few k n [] h = let m = hit_most k n in omega arith
rise_few k n (m ∷ ms) h =
    let a = h.0 in
    let r = rise_few k m ms h.1 in
    let b = hit_most k n in
    here_or_none k n (times k (n ∷ m ∷ ms) ≤ 1)
    (λ e. (let q = none_below k n (m ∷ ms) h (omega arith) in omega arith))
    (λ e. omega arith)

pub rise_distinct : (n : ℕ) (ms : List ℕ) → Rise n ms → distinct (n ∷ ms) ≡ true
rise_distinct n ms h = few_distinct (n ∷ ms) (λ k. rise_few k n ms h)

pub rise_from : (n k m : ℕ) → n < k → Rise n (numbers_from k m)
rise_from n k zero l = tt
rise_from n k (suc m) l = (l, rise_from k (k + 1) m (omega arith))
