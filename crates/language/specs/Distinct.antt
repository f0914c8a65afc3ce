-- Lists of numbers without duplicates.
use Rattle.std.specs.Prelude.{ℕ, Bool, true, false, not, ◌&&◌, ◌||◌, List, [], ◌∷◌, nat_eq}

-- the number stands in the list
abbrev pub has : ℕ → List ℕ → Bool
has n [] = false
has n (x ∷ xs) = nat_eq n x || has n xs

-- no number occurs twice
abbrev pub distinct : List ℕ → Bool
distinct [] = true
distinct (x ∷ xs) = not (has x xs) && distinct xs
