-- Elements of an array by ascending keys, and the tests of code.
use Rattle.std.specs.Prelude.{[], ◌∷◌, if◌then◌else◌}
use Rattle.board_history.specs.Replay.{Tests}
use Rattle.task_code.specs.Compute.{Elements}
use Rattle.task_code.specs.Places.{Place, place_eq}
use Rattle.values.specs.Keys.{key_below, same_key}
use Rattle.values.specs.declared.key.Key.{Key}
use Rattle.values.specs.declared.value.Scalar.{Scalar}

-- inserts an element into elements by ascending keys; an element already present under the same key stays
abbrev pub put_in : Key × Scalar → Elements → Elements
put_in e [] = e ∷ []
put_in e (x ∷ xs) = if key_below e.0 x.0 then e ∷ x ∷ xs else (if same_key e.0 x.0 then x ∷ xs else x ∷ put_in e xs)

abbrev pub by_key : Elements → Elements
by_key [] = []
by_key (x ∷ xs) = put_in x (by_key xs)

-- the comparisons of places, keys and elements of code
abbrev pub code_tests : Tests Place Key Scalar
code_tests = record { same_place = place_eq; same_key = same_key; listing = by_key }
