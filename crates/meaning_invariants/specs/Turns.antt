-- Values of loop variables in a turn.
use Rattle.std.specs.Prelude.{ℕ, List, [], ◌∷◌, Option, Some, None}
use Rattle.values.specs.declared.key.Key.{Key}
use Rattle.values.specs.Keys.{key_scalar}
use Rattle.language.specs.Core.{Action, range, each}
use Rattle.meaning_facts.specs.declared.instances.LoopVariable.{LoopVariable}
use Rattle.meaning_cells.specs.Chosen.{Chosen, key_in, value_at_turn}

abbrev pub key_variable : Option ℕ → Key → List LoopVariable
key_variable (Some t) k = record { node = t; value = key_scalar k } ∷ []
key_variable None k = []

-- the variable for the value, then the one for the index or key of the turn
abbrev pub turn_variables : Action → Chosen → ℕ → List LoopVariable
turn_variables (range lo hi st x t b) c i = record { node = x; value = value_at_turn c i } ∷ key_variable t (key_in c i)
turn_variables (each a x t b) c i = record { node = x; value = value_at_turn c i } ∷ key_variable t (key_in c i)
turn_variables _ c i = []
