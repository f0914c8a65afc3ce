-- The inputs of a statement that are not known.
use Rattle.std.specs.Prelude.{ℕ, Bool, true, false, List, [], ◌∷◌, ◌++◌, is_some, Option, Some, None}
use Rattle.values.specs.declared.key.Key.{Key}
use Rattle.values.specs.declared.value.Scalar.{Scalar}
use Rattle.values.specs.declared.value.Value.{Value}
use Rattle.values.specs.Keys.{value_key}
use Rattle.language.specs.Core.{Core, Name}
use Rattle.language.specs.Facts.{Knowledge, value, IsKey, OneWrite}
use Rattle.language.specs.Meaning.{Closed, HasValue}
use Rattle.language.specs.Places.{Path, place}
use Rattle.meaning_steps.specs.Environment.{Sight}
use Rattle.explain_inputs.specs.Inputs.{Input, one_scalar, whole_array, an_element}

-- an input is known at a path: the scalar has a value; the array is closed; the index is known, and its element is
-- written exactly once
pub data IsThere (s : Core) (K : Knowledge) (path : Path) : Input → Type 0 where
  has_value : {x : Name} {v : Scalar} → HasValue s K (place s path x) v → IsThere s K path (one_scalar x)
  is_closed : {a : Name} → Closed s K (place s path a) → IsThere s K path (whole_array a)
  is_written : {a : Name} {i : ℕ} {u : Value} {k : Key} {v : Scalar} → K (value (path, i) u) → IsKey u k → OneWrite K (place s path a) k v
      → IsThere s K path (an_element a i)

-- exactly these of the inputs are not known, in their order
pub data AreMissing (s : Core) (K : Knowledge) (path : Path) : List Input → List Input → Type 0 where
  no_input : AreMissing s K path [] []
  there : {x : Input} {xs ys : List Input} → IsThere s K path x → AreMissing s K path xs ys → AreMissing s K path (x ∷ xs) ys
  missing : {x : Input} {xs ys : List Input} → ¬ IsThere s K path x → AreMissing s K path xs ys → AreMissing s K path (x ∷ xs) (x ∷ ys)

-- MISSING INPUTS AS SEEN FROM AN INSTANCE

abbrev pub is_once : List Scalar → Bool
is_once [] = false
is_once (v ∷ []) = true
is_once (v ∷ u ∷ vs) = false

abbrev pub once_under : Sight → Name → Option Key → Bool
once_under g a (Some k) = is_once (g.writes a k)
once_under g a None = false

-- an element, given the value of its index
abbrev pub element_seen : Sight → Name → Option Value → Bool
element_seen g a (Some v) = once_under g a (value_key v)
element_seen g a None = false

abbrev pub is_seen : Sight → Input → Bool
is_seen g (one_scalar x) = is_some (g.scalar x)
is_seen g (whole_array a) = g.closed a
is_seen g (an_element a i) = element_seen g a (g.cell i)

abbrev pub unless : Bool → Input → List Input
unless true x = []
unless false x = x ∷ []

abbrev pub not_seen : Sight → List Input → List Input
not_seen g [] = []
not_seen g (x ∷ xs) = unless (is_seen g x) x ++ not_seen g xs
