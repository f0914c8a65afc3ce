-- Lists by number, to which values are added.
use Rattle.std.specs.Prelude.{◌≡◌, ◌⊎◌, ℕ, zero, suc, List, [], ◌∷◌, ◌++◌, length}
use Rattle.dataflow.specs.System.{In}

-- the list of a number, or an empty one beyond the last
abbrev pub row : {X : Type 0} → List (List X) → ℕ → List X
row [] k = []
row (r ∷ rs) zero = r
row (r ∷ rs) (suc k) = row rs k

-- each list keeps its members, and each new member satisfies the condition
pub record Fills {X : Type 0} (P : ℕ → X → Type 0) (old new : List (List X)) : Type 0 where
  pub count : length new ≡ length old
  pub kept : (k : ℕ) (x : X) → In x (row old k) → In x (row new k)
  pub only : (k : ℕ) (x : X) → In x (row new k) → In x (row old k) ⊎ P k x

-- these lists with a value appended to the list of a number, if there is one
abbrev pub put_in : {X : Type 0} → List (List X) → ℕ → X → List (List X)
put_in [] n v = []
put_in (r ∷ rs) zero v = (r ++ v ∷ []) ∷ rs
put_in (r ∷ rs) (suc n) v = r ∷ put_in rs n v
