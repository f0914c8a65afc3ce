-- Sorted lists without duplicates.
use Rattle.std.specs.Prelude.{◌≡◌, ◌-◌, Bool, true, false, List, [], ◌∷◌, ◌++◌, None, Some, length, slice_get, if◌then◌else◌}
use Rattle.language.specs.Members.{◌∈◌}

-- each element is below all following ones
abbrev pub IsInOrder : {X : Type 0} → (below : X → X → Bool) → List X → Type 0
IsInOrder below [] = Unit {0}
IsInOrder {X} below (x ∷ xs) = ((y : X) → y ∈ xs → below x y ≡ true) × IsInOrder below xs

-- the second list has exactly the members of the first, sorted and without duplicates
pub record Lists {X : Type 0} (below same : X → X → Bool) (xs ys : List X) : Type 0 where
  pub in_order : IsInOrder below ys
  pub each : (y : X) → y ∈ ys → y ∈ xs
  pub all : (x : X) → x ∈ xs → (y : X) × (y ∈ ys) × (same x y ≡ true)

-- an element is the last of these
abbrev pub is_last : {X : Type 0} → (same : X → X → Bool) → List X → X → Bool
is_last same found x = elim (slice_get found (length found - 1)) [ None ↦ false | Some y ↦ same x y ]

-- appends each of the others, unless it is the last of the list
abbrev pub each_once : {X : Type 0} → (same : X → X → Bool) → List X → List X → List X
each_once same found [] = found
each_once same found (x ∷ xs) = each_once same (if is_last same found x then found else found ++ x ∷ []) xs
