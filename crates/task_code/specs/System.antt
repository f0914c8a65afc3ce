-- Code as a system of tasks.
use Rattle.std.specs.Prelude.{Bool, true, not, ◌||◌, List, [], ◌∷◌, map, Option, Some, None, ℤ, pos}
use Rattle.dataflow.specs.System.{Answer, ClosedArray, ElementAt, ElementOf, Found, Good, Input, Outcome, StoredScalar, System}
use Rattle.std.specs.List.{flat_map, list_all}
use Rattle.task_code.specs.Code.{At, AtKey, Closed, Code, Control, Kind, Name, Need, Stored, entry, kind_of}
use Rattle.task_code.specs.Compute.{EntryFault, compute, in_key_order, key_of}
use Rattle.task_code.specs.Effects.{Item, Main, Task, block, effect_at, instances, is_too_deep, only, outcome_of}
use Rattle.task_code.specs.Places.{Constant, Datum, Nowhere, Place, Step, name_eq, place_array, place_at, place_eq}
use Rattle.values.specs.declared.key.Key.{Key}
use Rattle.values.specs.declared.value.Scalar.{Scalar}

-- the literal of a place, if it is one
abbrev pub literal_at : Place → Option Scalar
literal_at (Datum p v) = None
literal_at (Constant v) = Some v
literal_at Nowhere = None

-- the answers to all needs; a literal has none among the inputs
abbrev pub with_answer : Option Scalar → List (Answer Key Scalar) → (List (Answer Key Scalar) → List (Answer Key Scalar)) → List (Answer Key Scalar)
with_answer (Some v) xs f = Found v ∷ f xs
with_answer None [] f = []
with_answer None (x ∷ xs) f = x ∷ f xs

-- a place as an input: a scalar, an array, an element at a key, an element at a scalar's value
abbrev pub scalar_input : Place → List (Input Place Key)
scalar_input (Datum p v) = StoredScalar (Datum p v) ∷ []
scalar_input (Constant v) = []
scalar_input Nowhere = StoredScalar Nowhere ∷ []

abbrev pub whole_input : Place → List (Input Place Key)
whole_input (Datum p v) = ClosedArray (Datum p v) ∷ []
whole_input (Constant v) = []
whole_input Nowhere = ClosedArray Nowhere ∷ []

abbrev pub key_input : Place → Key → List (Input Place Key)
key_input (Datum p v) k = ElementOf (Datum p v) k ∷ []
key_input (Constant v) k = []
key_input Nowhere k = ElementOf Nowhere k ∷ []

abbrev pub element_input : Place → Place → List (Input Place Key)
element_input a (Constant v) = key_input a (key_of v)
element_input (Datum p w) (Datum q v) = ElementAt (Datum p w) (Datum q v) ∷ []
element_input (Datum p w) Nowhere = ElementAt (Datum p w) Nowhere ∷ []
element_input (Constant w) (Datum q v) = []
element_input (Constant w) Nowhere = []
element_input Nowhere (Datum q v) = ElementAt Nowhere (Datum q v) ∷ []
element_input Nowhere Nowhere = ElementAt Nowhere Nowhere ∷ []

-- the places that are not literals
abbrev pub data_among : List Place → List Place
data_among [] = []
data_among (Datum p v ∷ ds) = Datum p v ∷ data_among ds
data_among (Constant v ∷ ds) = data_among ds
data_among (Nowhere ∷ ds) = Nowhere ∷ data_among ds

module _ (C : Code) where
  -- the literal of a scalar need, if it is one
  abbrev pub literal_need : List Step → Need → Option Scalar
  literal_need p (Stored r) = literal_at (place_at C p r)
  literal_need p (Closed r) = None
  literal_need p (At a r) = None
  literal_need p (AtKey a k) = None

  abbrev pub answered : List Step → List Need → List (Answer Key Scalar) → List (Answer Key Scalar)
  answered p [] xs = []
  answered p (n ∷ ns) xs = with_answer (literal_need p n) xs (λ ys. answered p ns ys)

  -- the outcome of a task for the answers to its inputs
  abbrev pub task_effect : Task → List (Answer Key Scalar) → Outcome Task Place Key Scalar EntryFault
  task_effect Main xs = Good (record { writes = []; lines = []; opens = block C (0, []) ∷ [] })
  task_effect (Item i p c) xs =
      let x = compute (entry C i).act (answered p (entry C i).needs xs) in
      outcome_of x (is_too_deep (entry C i).act p (instances (entry C i).act (entry C i).offset p c x)) (effect_at C i p c x)

  -- the inputs of a need; a literal has none
  abbrev pub inputs_at : List Step → Need → List (Input Place Key)
  inputs_at p (Stored r) = scalar_input (place_at C p r)
  inputs_at p (Closed r) = whole_input (place_at C p r)
  inputs_at p (At a r) = element_input (place_at C p a) (place_at C p r)
  inputs_at p (AtKey a k) = key_input (place_at C p a) k

  -- the inputs of a task
  abbrev pub task_inputs : Task → List (Input Place Key)
  task_inputs Main = []
  task_inputs (Item i p c) = flat_map (inputs_at p) (entry C i).needs

  -- the places that a task may read
  abbrev pub task_reads : Task → List Place
  task_reads Main = []
  task_reads (Item i p c) = data_among (map (place_at C p) (entry C i).reads)

  -- the places that a task may write
  abbrev pub task_writes : Task → List Place
  task_writes Main = []
  task_writes (Item i p c) = map (place_at C p) (entry C i).writes

  -- two names of the same scalar are equal
  abbrev pub apart_at : List Step → Name → Name → Bool
  apart_at p r s = name_eq r s || (place_array (place_at C p r) || not (place_eq (place_at C p r) (place_at C p s)))

  -- a task whose distinct names of scalars have distinct places
  abbrev pub is_valid : Task → Bool
  is_valid Main = true
  is_valid (Item i p c) = list_all (λ r. list_all (apart_at p r) (entry C i).writes) (entry C i).writes

  -- the kind of a task
  abbrev pub task_kind : Task → Kind
  task_kind Main = Control
  task_kind (Item i p c) = kind_of (entry C i).act

  -- the priority of a task
  abbrev pub task_priority : Task → ℤ
  task_priority Main = pos 0
  task_priority (Item i p c) = (entry C i).priority

  -- the system of the code
  abbrev pub code_system : System Task Place Key Scalar EntryFault
  code_system = record {
    inputs = task_inputs;
    effect = task_effect;
    may_read = task_reads;
    may_write = task_writes;
    is_array = place_array;
    valid = is_valid;
    main = Main;
    only = only;
    key_of = key_of;
    ordered = in_key_order;
  }
