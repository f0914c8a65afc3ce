-- Membership in lists.
use Rattle.std.specs.Prelude.{◌≡◌, ◌⊎◌, List, [], ◌∷◌, ◌++◌, refl}
use Rattle.std.proofs.Common.{inl, inr}
use Rattle.language.specs.Members.{◌∈◌, first, later}

pub split_in : {X : Type 0} {x y : X} {xs : List X} → x ∈ (y ∷ xs) → (x ≡ y) ⊎ (x ∈ xs)
split_in first = inl refl
split_in (later m) = inr m

pub to_left : {X : Type 0} {x : X} (xs ys : List X) → x ∈ xs → x ∈ (xs ++ ys)
to_left [] ys m = elim m [ ]
to_left (x ∷ xs) ys first = first
to_left (y ∷ xs) ys (later m) = later (to_left xs ys m)

pub to_right : {X : Type 0} {x : X} (xs ys : List X) → x ∈ ys → x ∈ (xs ++ ys)
to_right [] ys m = m
to_right (y ∷ xs) ys m = later (to_right xs ys m)

pub either : {X : Type 0} {x : X} (xs ys : List X) → x ∈ (xs ++ ys) → (x ∈ xs) ⊎ (x ∈ ys)
either [] ys m = inr m
either (y ∷ xs) ys first = inl first
either (y ∷ xs) ys (later m) = elim (either xs ys m) [ inl i ↦ inl (later i) | inr i ↦ inr i ]
