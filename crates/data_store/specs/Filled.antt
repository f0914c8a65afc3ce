-- The view of slots whose indices are their keys.
use Rattle.std.specs.Prelude.{◌≡◌, ◌+◌, ℕ, ℤ, pos, suc, List, [], ◌∷◌, length, Option, Some, None, if◌then◌else◌}
use Rattle.std.specs.Map.{lookup}
use Rattle.std.specs.Ordering.{int_eq}
use Rattle.values.specs.declared.value.Scalar.{Scalar}

-- the scalars in the slots from index n on, each with its key
abbrev pub filled : ℕ → List (Option Scalar) → List (ℤ × Scalar)
filled n [] = []
filled n (None ∷ slots) = filled (suc n) slots
filled n (Some v ∷ slots) = (pos n, v) ∷ filled (suc n) slots

-- a key that had no scalar has this one, and no other key has changed
pub record IsPut (key : ℤ) (v : Scalar) (old new : List (ℤ × Scalar)) : Type 0 where
  pub finds : (q : ℤ) → lookup (int_eq q) new ≡ (if int_eq key q then Some v else lookup (int_eq q) old)
  pub longer : length new ≡ length old + 1
