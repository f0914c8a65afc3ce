-- Membership in a list.
use Rattle.std.specs.Prelude.{List, ◌∷◌}

-- x is one of a list
infix 40 ◌∈◌
pub data ◌∈◌ {X : Type 0} : X → List X → Type 0 where
  first : {x : X} {xs : List X} → x ∈ (x ∷ xs)
  later : {x y : X} {xs : List X} → x ∈ xs → x ∈ (y ∷ xs)
