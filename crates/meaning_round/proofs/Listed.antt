-- Members and filters of lists.
use Rattle.std.specs.Prelude.{◌≡◌, ℕ, zero, suc, ◌<◌, Bool, true, false, List, [], ◌∷◌, length, map, filter, refl}
use Rattle.std.proofs.Common.{inl, inr, ap, arith, get_or}
use Rattle.std.proofs.lemmas.Bool.{cases_Bool}
use Rattle.language.specs.Members.{◌∈◌, first, later}

pub map_filtered : {X Y : Type 0} (f : X → Y) (p : Y → Bool) (xs : List X) → map f (filter (λ x. p (f x)) xs) ≡ filter p (map f xs)
map_filtered f p [] = refl
map_filtered f p (x ∷ xs) = elim (cases_Bool (p (f x))) [
  | inl holds ↦ rw holds (ap (λ zs. f x ∷ zs) (map_filtered f p xs))
  | inr lacks ↦ rw lacks (map_filtered f p xs)
]

pub nth_in : {X : Type 0} (xs : List X) (i : ℕ) (d : X) → i < length xs → get_or xs i d ∈ xs
nth_in [] i d h = absurd (omega (arith, h))
nth_in (x ∷ xs) zero d h = first
nth_in (x ∷ xs) (suc i) d h = later (nth_in xs i d (omega (arith, h)))

pub mapped_in : {X Y : Type 0} (f : X → Y) (xs : List X) {x : X} → x ∈ xs → f x ∈ map f xs
mapped_in f xs (first {xs = ys}) = first
mapped_in f xs (later {xs = ys} i) = later (mapped_in f ys i)

pub not_both : true ≡ false → ⊥
not_both e = absurd (cc (e))
