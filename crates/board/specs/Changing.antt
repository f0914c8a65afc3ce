-- The change and the printed line of an effect.
use Rattle.std.specs.Prelude.{List, [], ◌∷◌, Option, Some, None}
use Rattle.values.specs.declared.value.Scalar.{Scalar}
use Rattle.board_effects.specs.declared.effect.Effect.{Effect}
use Rattle.board_effects.specs.declared.effect.Effect.TheVariants as Effects
use Rattle.board_changes.specs.declared.data_state.Change.{Change}
use Rattle.board_changes.specs.declared.data_state.Change.TheVariants as Changes

-- the change of instances and data
abbrev pub change_of : Effect → Change
change_of (Effects.Fails f) = Changes.Nothing
change_of (Effects.Stores d v) = Changes.Value d v
change_of (Effects.InsertsElement d k v) = Changes.Element d k v
change_of (Effects.Inserts d es) = Changes.Elements d es
change_of (Effects.Prints v) = Changes.Nothing
change_of Effects.Passes = Changes.Nothing
change_of (Effects.Opens o) = Changes.Opens o

-- the line, if there is one
abbrev pub line_of : Effect → Option Scalar
line_of (Effects.Fails f) = None
line_of (Effects.Stores d v) = None
line_of (Effects.InsertsElement d k v) = None
line_of (Effects.Inserts d es) = None
line_of (Effects.Prints v) = Some v
line_of Effects.Passes = None
line_of (Effects.Opens o) = None

abbrev pub line_list : Option Scalar → List Scalar
line_list None = []
line_list (Some v) = v ∷ []
