-- Changes of a store, one after the other.
use Rattle.std.proofs.Common.{◌≡◌, ◌∙◌, refl, sym, ap, ℕ, zero, suc, ◌<◌, ◌≤◌, ◌+◌, List, [], ◌∷◌, length, drop, drop-cons, get_or, add-one, arith}
use Rattle.data_store.specs.Stores.{Store}

abbrev pub one_by_one : {X : Type 0} → (X → Store → Store) → List X → Store → Store
one_by_one f [] s = s
one_by_one f (x ∷ xs) s = one_by_one f xs (f x s)

pub past : {X : Type 0} (xs : List X) (i : ℕ) → length xs ≤ i → drop i xs ≡ []
past [] zero h = refl
past [] (suc i) h = refl
past (x ∷ xs) zero h = absurd (omega (arith, h))
past (x ∷ xs) (suc i) h = past xs i (omega (arith, h))

pub next_step : {X : Type 0} (f : X → Store → Store) (xs : List X) (i : ℕ) (d : X) (s t u : Store) → i < length xs → one_by_one f (drop i xs) s ≡ u → t ≡ f (get_or xs i d) s → one_by_one f (drop (i + 1) xs) t ≡ u
next_step f xs i d s t u h e n = ap (one_by_one f (drop (i + 1) xs)) n ∙ ap (λ k. one_by_one f (drop k xs) (f (get_or xs i d) s)) (add-one i) ∙ ap (λ ys. one_by_one f ys s) (sym (drop-cons xs i d h)) ∙ e

pub last_step : {X : Type 0} (f : X → Store → Store) (xs : List X) (i : ℕ) (s u : Store) → length xs ≤ i → one_by_one f (drop i xs) s ≡ u → s ≡ u
last_step f xs i s u h e = ap (λ ys. one_by_one f ys s) (sym (past xs i h)) ∙ e
