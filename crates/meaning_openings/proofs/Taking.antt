-- The first so many of a list that grows.
use Rattle.std.specs.Prelude.{◌≡◌, ◌⊎◌, ℕ, zero, suc, ◌≤◌, List, [], ◌∷◌, ◌++◌, length, take, Some, None, slice_get}
use Rattle.std.proofs.Common.{inl, inr, subst, arith}
use Rattle.std.proofs.lemmas.Option.{same_Some}
use Rattle.language.specs.Members.{◌∈◌, first, later}
use Rattle.language.proofs.Members.{split_in}

none_taken : {X : Type 0} (xs : List X) (x : X) → x ∈ take 0 xs → ⊥
none_taken [] x m = elim m [ ]
none_taken (y ∷ ys) x m = elim m [ ]

-- what is taken of a list is taken of it with more, and is in the list
pub taken_in : {X : Type 0} (k : ℕ) (xs : List X) (x : X) → x ∈ take k xs → x ∈ xs
taken_in zero xs x m = absurd (none_taken xs x m)
taken_in (suc k) [] x m = elim m [ ]
taken_in (suc k) (y ∷ ys) x first = first
taken_in (suc k) (y ∷ ys) x (later m) = later (taken_in k ys x m)

-- no more than there were, of the list with more
pub taken_before : {X : Type 0} (j k : ℕ) (xs more : List X) (x : X) → j ≤ k → j ≤ length xs → x ∈ take j (xs ++ more) → x ∈ take k xs
taken_before zero k xs more x l h m = absurd (none_taken (xs ++ more) x m)
taken_before (suc j) k [] more x l h m = absurd (omega (arith, h))
taken_before (suc j) zero (y ∷ ys) more x l h m = absurd (omega (arith, l))
taken_before (suc j) (suc k) (y ∷ ys) more x l h first = first
taken_before (suc j) (suc k) (y ∷ ys) more x l h (later m) = later (taken_before j k ys more x (omega (arith, l)) (omega (arith, h)) m)

-- one more
pub taken_next : {X : Type 0} (k : ℕ) (xs more : List X) (a x : X) → slice_get xs k ≡ Some a → x ∈ take (suc k) (xs ++ more) → (x ∈ take k xs) ⊎ (x ≡ a)
taken_next k [] more a x e m = absurd (cc (e))
taken_next zero (y ∷ ys) more a x e m = elim (split_in m) [ inl q ↦ inr (cc (q, e)) | inr i ↦ absurd (none_taken (ys ++ more) x i) ]
taken_next (suc k) (y ∷ ys) more a x e first = inl first
taken_next (suc k) (y ∷ ys) more a x e (later m) = elim (taken_next k ys more a x e m) [ inl i ↦ inl (later i) | inr q ↦ inr q ]

-- behind the last
pub taken_all : {X : Type 0} (k : ℕ) (xs : List X) (x : X) → slice_get xs k ≡ None → x ∈ xs → x ∈ take k xs
taken_all k [] x e m = elim m [ ]
taken_all zero (y ∷ ys) x e m = absurd (cc (e))
taken_all (suc k) (y ∷ ys) x e first = first
taken_all (suc k) (y ∷ ys) x e (later m) = later (taken_all k ys x e m)

pub got_in : {X : Type 0} (k : ℕ) (xs : List X) (x : X) → slice_get xs k ≡ Some x → x ∈ xs
got_in k [] x e = absurd (cc (e))
got_in {X = X} zero (y ∷ ys) x e = subst (λ (z : X). z ∈ (y ∷ ys)) (same_Some _ _ e) first
got_in (suc k) (y ∷ ys) x e = later (got_in k ys x e)
