-- The paths of a program's instances: each is one step below its parent, and is found by its steps.
use Rattle.std.specs.Prelude.{◌≡◌, ℕ, ◌<◌, ◌≤◌, ℤ, Bool, ◌&&◌, List, [], ◌∷◌, ◌++◌, length, map, nat_eq, Option, Some, None, slice_get, if◌then◌else◌}
use Rattle.std.specs.HashMap.{HashMap, get}
use Rattle.std.specs.Ordering.{int_eq}
use Rattle.std.specs.Str.{bytes_eq}
use Rattle.values.specs.declared.key.Key.{Key}
use Rattle.values.specs.declared.key.Key.TheVariants.{Number, Text}
use Rattle.values.specs.Keys.{same_key}
use Rattle.language.specs.Places.{Path, max_path_steps}
use Rattle.language.specs.Places.{Step as PathStep}
use Rattle.paths.specs.declared.steps.Step.{Step}
use Rattle.meaning_facts.specs.declared.instances.InstanceBindings.{InstanceBindings}
use Rattle.meaning_facts.specs.declared.instances.Instance.{Instance}
use Rattle.meaning_facts.specs.declared.instances.Instances.{Instances}
use Rattle.meaning_facts.specs.Store.{same_pair, parent_of, inputs_of, outputs_of, variables_of}

abbrev pub step_view : Step → PathStep
step_view s = (s.offset, s.key)

abbrev pub path_in : Option Instance → Path
path_in (Some n) = map step_view n.path.items
path_in None = []

-- the path of an instance
abbrev pub path_of : List Instance → ℕ → Path
path_of ns i = path_in (slice_get ns i)

-- equality of steps: the same parent, offset and key
abbrev pub same_step : ℕ × ℕ × Key → ℕ × ℕ × Key → Bool
same_step p q = (nat_eq p.0 q.0 && nat_eq p.1 q.1) && same_key p.2 q.2

-- equality of steps with number keys
abbrev pub same_turn : ℕ × ℕ × ℤ → ℕ × ℕ × ℤ → Bool
same_turn p q = (nat_eq p.0 q.0 && nat_eq p.1 q.1) && int_eq p.2 q.2

-- the instance at a text key, among those at an offset
abbrev pub named_in : {S : Type 0} → Option (HashMap (List ℕ) ℕ S) → List ℕ → Option ℕ
named_in None bytes = None
named_in (Some children) bytes = get bytes_eq children bytes

-- the child of an instance at a step
abbrev pub child_at : Instances → ℕ → (at : ℕ) → Key → Option ℕ
child_at t i at (Number z) = get same_turn t.opened (i, at, z)
child_at t i at (Text bytes) = named_in (get same_pair t.named (i, at)) bytes

abbrev pub child_behind : Instances → Option ℕ → (at : ℕ) → Key → Option ℕ
child_behind t (Some i) at k = child_at t i at k
child_behind t None at k = None

-- the instance at a path, found step by step from the instance of the script
abbrev pub at_path : Instances → Path → Option ℕ
at_path t [] = Some 0
at_path t (s ∷ path) = child_behind t (at_path t path) s.0 s.1

-- empty bindings
pub record IsNone (g : InstanceBindings) : Type 0 where
  pub inputs : g.inputs.items ≡ []
  pub outputs : g.outputs.items ≡ []
  pub variables : g.variables.items ≡ []

-- an instance is one step below another
pub record IsChild (ns : List Instance) (i : ℕ) (at : ℕ) (k : Key) (j : ℕ) : Type 0 where
  pub within : j < length ns
  pub behind : i < j
  pub parent_is : parent_of ns j ≡ i
  pub path_is : path_of ns j ≡ (at, k) ∷ path_of ns i

-- the step at which an instance was opened
pub record IsOpened (t : Instances) (j : ℕ) : Type 0 where
  pub at : ℕ
  pub key : Key
  pub opened : child_at t (parent_of t.all.items j) at key ≡ Some j

-- the instance of the script has the empty path and empty bindings; an opened instance is a child of its parent, and
-- each other instance was opened
pub record IsTree (t : Instances) : Type 0 where
  pub rooted : 0 < length t.all.items
  pub root_path : path_of t.all.items 0 ≡ []
  pub root_parent : parent_of t.all.items 0 ≡ 0
  pub root_inputs : inputs_of t.all.items 0 ≡ []
  pub root_outputs : outputs_of t.all.items 0 ≡ []
  pub root_variables : variables_of t.all.items 0 ≡ []
  pub opens : (i at : ℕ) (k : Key) (j : ℕ) → child_at t i at k ≡ Some j → IsChild t.all.items i at k j
  pub opened : (j : ℕ) → 0 < j → j < length t.all.items → IsOpened t j
  pub short : (j : ℕ) → length (path_of t.all.items j) ≤ max_path_steps

-- an instance was opened at a step of another one: it is appended to the list, and is found at that step
pub record IsOpen (t : Instances) (parent : ℕ) (s : Step) (g : InstanceBindings) (u : Instances) : Type 0 where
  pub made : Instance
  pub all : u.all.items ≡ t.all.items ++ made ∷ []
  pub parent_is : made.parent ≡ parent
  pub path_is : map step_view made.path.items ≡ step_view s ∷ path_of t.all.items parent
  pub given_is : made.given ≡ g
  pub found : (i at : ℕ) (k : Key) → child_at u i at k ≡ (if same_step (parent, s.offset, s.key) (i, at, k) then Some (length t.all.items) else child_at t i at k)
