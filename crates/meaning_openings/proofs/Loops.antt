-- What the variables of a loop are, by its statement.
use Rattle.std.specs.Prelude.{◌≡◌, ◌∷◌, ℕ, Option, Box, option_map}
use Rattle.std.proofs.Common.{rules, ap}
use Rattle.flow.specs.declared.name.Name.{Name}
use Rattle.flow.specs.declared.statement.Action.{Range as Ranged, Each as Looped, the_lemmas}
use Rattle.flow.specs.declared.statement.Block.{Block}
use Rattle.flow.specs.declared.statement.Range.{Range}
use Rattle.flow.specs.declared.statement.Variable.{Variable as Declared}
use Rattle.flow.specs.View.{action_view, block_view, name_view, outer_view}
use Rattle.language.specs.Core as core
use Rattle.meaning_cells.specs.Chosen.{Chosen, key_in, value_at_turn}
use Rattle.meaning_invariants.specs.Turns.{key_variable, turn_variables}

view_range : {A : Type 0} (r : Box (Range A) A) (v : Declared A) (k : Option (Declared A)) (b : Box (Block A) A)
    → action_view (Ranged r v k b) ≡ core.range (outer_view r.value.low) (outer_view r.value.high) (option_map outer_view r.value.step) v.node (option_map (λ x. x.node) k) (block_view b.value)
view_range r v k b = search (rules, the_lemmas)

view_each : {A : Type 0} (a : Name) (v : Declared A) (k : Option (Declared A)) (b : Box (Block A) A)
    → action_view (Looped a v k b) ≡ core.each (name_view a) v.node (option_map (λ x. x.node) k) (block_view b.value)
view_each a v k b = search (rules, the_lemmas)

pub range_variables : {A : Type 0} (r : Box (Range A) A) (v : Declared A) (k : Option (Declared A)) (b : Box (Block A) A) (c : Chosen) (i : ℕ)
    → turn_variables (action_view (Ranged r v k b)) c i ≡ record { node = v.node; value = value_at_turn c i } ∷ key_variable (option_map (λ x. x.node) k) (key_in c i)
range_variables {A} r v k b c i = ap (λ (z : core.Action). turn_variables z c i) (view_range r v k b)

pub each_variables : {A : Type 0} (a : Name) (v : Declared A) (k : Option (Declared A)) (b : Box (Block A) A) (c : Chosen) (i : ℕ)
    → turn_variables (action_view (Looped a v k b)) c i ≡ record { node = v.node; value = value_at_turn c i } ∷ key_variable (option_map (λ x. x.node) k) (key_in c i)
each_variables {A} a v k b c i = ap (λ (z : core.Action). turn_variables z c i) (view_each a v k b)
