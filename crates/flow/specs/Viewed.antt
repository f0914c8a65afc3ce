-- Data of the program in terms of the definitions.
use Rattle.std.specs.Prelude.{ℕ, zero, suc, Bool, true, false, List, [], ◌∷◌, ◌++◌, option_to_list}
use Rattle.flow.specs.View.{block_view}
use Rattle.flow.specs.declared.declaring.Multiplicity.{Multiplicity}
use Rattle.flow.specs.declared.scopes.Scope.{Scope}
use Rattle.flow.specs.declared.scopes.Scopes.{Scopes, Scopes-F, fold-Scopes}
use Rattle.flow.specs.declared.scopes.Scopes.TheOpen as Are
use Rattle.flow.specs.Names.{block_nodes}
use Rattle.flow.specs.Whole.{Owner, times, in_content}

abbrev pub number_as : ℕ → Multiplicity
number_as zero = Multiplicity.Never
number_as (suc zero) = Multiplicity.Once
number_as (suc (suc n)) = Multiplicity.Often

-- how often a number occurs in a list: never, once or often
abbrev pub times_as : ℕ → List ℕ → Multiplicity
times_as n ns = number_as (times n ns)

-- how often it occurs in two lists
abbrev pub plus : Multiplicity → Multiplicity → Multiplicity
plus Multiplicity.Never t = t
plus t Multiplicity.Never = t
plus _ _ = Multiplicity.Often

abbrev pub owner_of : {A : Type 0} → Scope A → Owner
owner_of s = record { inputs = s.inputs; outputs = s.outputs; nodes = (option_to_list s.value ++ option_to_list s.turn) ++ block_nodes (block_view s.block.now) }

abbrev pub owners_step : {A : Type 0} → Scopes-F A (List Owner) → List Owner
owners_step Are.End = []
owners_step (Are.Within s os) = owner_of s ∷ os.now
owners_step (Are.Content b os) = in_content (block_view b.now) os.now

abbrev pub owners_of : {A : Type 0} → Scopes A → List Owner
owners_of {A} = fold-Scopes A (List Owner) owners_step

-- this, and how often the innermost of these owners declares a number; never if there is none
abbrev pub times_within : ℕ → Multiplicity → List Owner → Multiplicity
times_within n t [] = Multiplicity.Never
times_within n t (o ∷ os) = plus t (times_as n o.nodes)

abbrev pub is_once : Multiplicity → Bool
is_once Multiplicity.Once = true
is_once _ = false

-- the inputs and outputs of the innermost of these owners; none if there is none
abbrev pub inputs_within : List Owner → ℕ
inputs_within [] = 0
inputs_within (o ∷ os) = o.inputs

abbrev pub outputs_within : List Owner → ℕ
outputs_within [] = 0
outputs_within (o ∷ os) = o.outputs
