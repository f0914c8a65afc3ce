-- Two lists of pairs have the same elements exactly where they weigh the same, however each pair is weighed.
use Rattle.std.proofs.Common.{◌≡◌, ℕ, zero, suc, ◌+◌, ◌<◌, List, [], ◌∷◌, ◌++◌, length, sym, refl, ap, ◌∙◌, subst, arith, cond, eqb, true, false}
use Rattle.std.specs.Prelude.{IsPermutation, sum_by, ◌==◌, if◌then◌else◌}
use Rattle.std.proofs.lemmas.Bool.Decides.{nat_tests}
use Rattle.std.proofs.lemmas.List.Sums.{sum_by-cons}
use Rattle.std.proofs.lemmas.List.Sorted.{IsPermutation-refl, IsPermutation-sym, IsPermutation-trans, IsPermutation-cons, IsPermutation-middle, sum_by-IsPermutation}
use Rattle.pool.specs.declared.protocol.SeatView.{SeatView}
use Rattle.pool.specs.Views.{total, gathered, lying, Balanced, JoinedIsEmpty}

-- the weights of pairs of a hole and a number, added up
abbrev pub weigh : (ℕ → ℕ → ℕ) → List (ℕ × ℕ) → ℕ
weigh h [] = 0
weigh h (x ∷ xs) = h x.0 x.1 + weigh h xs

-- the weight of what a hole holds, of which 0 is nothing
abbrev pub held : (ℕ → ℕ → ℕ) → ℕ → ℕ → ℕ
held h hole n = if n == 0 then 0 else h hole n

-- the weight of what lies in the holes from this one on
abbrev pub lying_weight : (ℕ → ℕ → ℕ) → ℕ → List ℕ → ℕ
lying_weight h hole [] = 0
lying_weight h hole (n ∷ ns) = held h hole n + lying_weight h (hole + 1) ns

-- the rule by weights
pub record Weighed (seats : ℕ) (words : List ℕ) (views : List SeatView) : Type 0 where
  pub holes : length words ≡ 96
  pub parts : total (λ v. v.parts) views ≡ seats
  pub numbers : (h : ℕ → ℕ → ℕ) → total (λ v. weigh h v.offered) views ≡ total (λ v. weigh h v.taken) views + lying_weight h 0 words
  pub idle : JoinedIsEmpty views

pub weigh_append : (h : ℕ → ℕ → ℕ) (xs ys : List (ℕ × ℕ)) → weigh h (xs ++ ys) ≡ weigh h xs + weigh h ys
weigh_append h [] ys = omega arith
weigh_append h (x ∷ xs) ys = let r = weigh_append h xs ys in omega arith

weigh_is : (h : ℕ → ℕ → ℕ) (xs : List (ℕ × ℕ)) → weigh h xs ≡ sum_by (λ x. h x.0 x.1) xs
weigh_is h [] = refl
weigh_is h (x ∷ xs) = let r = weigh_is h xs in let s = sum_by-cons (λ (p : ℕ × ℕ). h p.0 p.1) x xs in omega (arith, r, s)

pub weigh_permuted : (h : ℕ → ℕ → ℕ) (xs ys : List (ℕ × ℕ)) → IsPermutation xs ys → weigh h xs ≡ weigh h ys
weigh_permuted h xs ys p = weigh_is h xs ∙ sym (sum_by-IsPermutation (λ (x : ℕ × ℕ). h x.0 x.1) xs ys p) ∙ sym (weigh_is h ys)

pub weigh_gathered : (h : ℕ → ℕ → ℕ) (f : SeatView → List (ℕ × ℕ)) (vs : List SeatView) → weigh h (gathered f vs) ≡ total (λ v. weigh h (f v)) vs
weigh_gathered h f [] = refl
weigh_gathered h f (v ∷ vs) = let r = weigh_gathered h f vs in let a = weigh_append h (f v) (gathered f vs) in omega (arith, r, a)

pub weigh_lying : (h : ℕ → ℕ → ℕ) (hole : ℕ) (ws : List ℕ) → weigh h (lying hole ws) ≡ lying_weight h hole ws
weigh_lying h hole [] = refl
weigh_lying h hole (n ∷ ws) =
    let r = weigh_lying h (hole + 1) ws in
    elim (eqb n 0) as (λ b. weigh h (cond b (lying (hole + 1) ws) ((hole, n) ∷ lying (hole + 1) ws)) ≡ cond b 0 (h hole n) + lying_weight h (hole + 1) ws) [
      | true ↦ omega (arith, r)
      | false ↦ omega (arith, r)
    ]

-- 1 for one pair, and 0 for each other
abbrev only : ℕ × ℕ → ℕ → ℕ → ℕ
only x hole n = if hole == x.0 then (if n == x.1 then 1 else 0) else 0

only_itself : (x : ℕ × ℕ) → only x x.0 x.1 ≡ 1
only_itself x =
    let here : eqb x.0 x.0 ≡ true = grind (arith, nat_tests) in
    let there : eqb x.1 x.1 ≡ true = grind (arith, nat_tests) in
    rw (here, there) refl

-- a pair that weighs something by `only x` is x
only_is : (x y : ℕ × ℕ) → 0 < only x y.0 y.1 → y ≡ x
only_is x y some = elim (eqb y.0 x.0) as (λ b. eqb y.0 x.0 ≡ b → 0 < cond b (cond (eqb y.1 x.1) 1 0) 0 → y ≡ x) [
  | true ↦ λ first. elim (eqb y.1 x.1) as (λ d. eqb y.1 x.1 ≡ d → 0 < cond d 1 0 → y ≡ x) [
    | true ↦ λ second some. let a : y.0 ≡ x.0 = grind (arith, nat_tests) in let b : y.1 ≡ x.1 = grind (arith, nat_tests) in λ i. (a i, b i)
    | false ↦ λ second some. absurd (omega arith)
  ] refl
  | false ↦ λ first some. absurd (omega arith)
] refl some

-- where a list weighs something by `only x`, x stands in it
pub standing : (x : ℕ × ℕ) (ys : List (ℕ × ℕ)) → 0 < weigh (only x) ys → (front : List (ℕ × ℕ)) × (back : List (ℕ × ℕ)) × (ys ≡ front ++ x ∷ back)
standing x [] some = absurd (omega arith)
standing x (y ∷ ys) some =
    let M : ℕ → Type 0 = λ m. only x y.0 y.1 ≡ m → (front : List (ℕ × ℕ)) × (back : List (ℕ × ℕ)) × (y ∷ ys ≡ front ++ x ∷ back) in
    elim (only x y.0 y.1) as M [
      | zero ↦ λ none. let r = standing x ys (omega arith) in (y ∷ r.0, r.1, ap (λ (l : List (ℕ × ℕ)). y ∷ l) r.2)
      | suc m ↦ λ one. ([], ys, ap (λ (z : ℕ × ℕ). z ∷ ys) (only_is x y (omega arith)))
    ] refl

weighs_some : (y : ℕ × ℕ) (ys : List (ℕ × ℕ)) → 0 ≡ weigh (λ a b. 1) (y ∷ ys) → ⊥
weighs_some y ys e = omega arith

-- lists that weigh the same by every weight have the same elements
pub permutation_of : (xs ys : List (ℕ × ℕ)) → ((h : ℕ → ℕ → ℕ) → weigh h xs ≡ weigh h ys) → IsPermutation xs ys
permutation_of [] [] same = IsPermutation-refl []
permutation_of [] (y ∷ ys) same = absurd (weighs_some y ys (same (λ a b. 1)))
permutation_of (x ∷ xs) ys same =
    let some = same (only x) in
    let one = only_itself x in
    let there = standing x ys (omega arith) in
    let rest : List (ℕ × ℕ) = there.0 ++ there.1 in
    let fewer : (h : ℕ → ℕ → ℕ) → weigh h xs ≡ weigh h rest =
    λ h. let all = same h in
    let split = ap (weigh h) there.2 ∙ weigh_append h there.0 (x ∷ there.1) in
    let joined = weigh_append h there.0 there.1 in
    omega (arith, all, split, joined) in
    let put_back = IsPermutation-trans _ _ _ (IsPermutation-cons x xs rest (permutation_of xs rest fewer)) (IsPermutation-sym _ _ (IsPermutation-middle there.0 x there.1)) in
    subst (IsPermutation (x ∷ xs)) (sym there.2) put_back

-- pairs that were taken or lie, and those that were offered, weigh the same
pub weights_of : (words : List ℕ) (views : List SeatView) → IsPermutation (gathered (λ v. v.offered) views) (gathered (λ v. v.taken) views ++ lying 0 words)
    → (h : ℕ → ℕ → ℕ) → total (λ v. weigh h v.offered) views ≡ total (λ v. weigh h v.taken) views + lying_weight h 0 words
weights_of words views numbers h =
    let off : List (ℕ × ℕ) = gathered (λ v. v.offered) views in
    let tak : List (ℕ × ℕ) = gathered (λ v. v.taken) views in
    let same = weigh_permuted h off (tak ++ lying 0 words) numbers in
    let a = weigh_gathered h (λ v. v.offered) views in
    let b = weigh_gathered h (λ v. v.taken) views in
    let d = weigh_append h tak (lying 0 words) in
    let e = weigh_lying h 0 words in
    omega (arith, same, a, b, d, e)

-- the rule gives the rule by weights
pub weighed : (seats : ℕ) (words : List ℕ) (views : List SeatView) → Balanced seats words views → Weighed seats words views
weighed seats words views rule = record { holes = rule.holes; parts = rule.parts; numbers = weights_of words views rule.numbers; idle = rule.idle }

-- pairs that all weights agree on are those taken with those lying
pub numbers_of : (words : List ℕ) (views : List SeatView) → ((h : ℕ → ℕ → ℕ) → total (λ v. weigh h v.offered) views ≡ total (λ v. weigh h v.taken) views + lying_weight h 0 words)
    → IsPermutation (gathered (λ v. v.offered) views) (gathered (λ v. v.taken) views ++ lying 0 words)
numbers_of words views same =
    let off : List (ℕ × ℕ) = gathered (λ v. v.offered) views in
    let tak : List (ℕ × ℕ) = gathered (λ v. v.taken) views in
    permutation_of off (tak ++ lying 0 words) (λ h.
    let s = same h in
    let a = weigh_gathered h (λ v. v.offered) views in
    let b = weigh_gathered h (λ v. v.taken) views in
    let d = weigh_append h tak (lying 0 words) in
    let e = weigh_lying h 0 words in
    omega (arith, s, a, b, d, e))

-- and back
pub balanced : (seats : ℕ) (words : List ℕ) (views : List SeatView) → Weighed seats words views → Balanced seats words views
balanced seats words views rule = record { holes = rule.holes; parts = rule.parts; numbers = numbers_of words views rule.numbers; idle = rule.idle }
