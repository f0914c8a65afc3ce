-- The two ways to say that something stands in a list.
use Rattle.std.proofs.Common.{inl, inr, List, [], ◌∷◌, refl, subst}
use Rattle.dataflow.specs.System.{In}
use Rattle.language.specs.Members.{◌∈◌, first, later}

pub to_in : {X : Type 0} {x : X} {xs : List X} → x ∈ xs → In x xs
to_in first = inl refl
to_in (later m) = inr (to_in m)

pub from_in : {X : Type 0} (x : X) (xs : List X) → In x xs → x ∈ xs
from_in x [] h = absurd h
from_in {X} x (y ∷ xs) (inl e) = subst (λ (z : X). x ∈ (z ∷ xs)) e first
from_in x (y ∷ xs) (inr m) = later (from_in x xs m)
