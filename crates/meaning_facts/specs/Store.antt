-- Views of the facts and the instances of a program: values, lines and writes by place, and the places of names.
use Rattle.std.specs.Prelude.{◌≡◌, ℕ, zero, suc, Bool, false, ◌&&◌, ◌||◌, List, [], ◌∷◌, Option, Some, None, nat_eq, slice_get, map, if◌then◌else◌}
use Rattle.std.specs.HashMap.{get, values}
use Rattle.values.specs.declared.key.Key.{Key}
use Rattle.values.specs.declared.map.Element.{Element}
use Rattle.values.specs.declared.value.Scalar.{Scalar}
use Rattle.values.specs.declared.value.Value.{Value}
use Rattle.values.specs.Keys.{same_key}
use Rattle.values.specs.Maps.{found, inserted}
use Rattle.language.specs.Core.{Owned, local, input, output, Name}
use Rattle.meaning_facts.specs.declared.facts.Place.{Place}
use Rattle.meaning_facts.specs.declared.facts.Write.{Write}
use Rattle.meaning_facts.specs.declared.facts.KeyWrites.{KeyWrites}
use Rattle.meaning_facts.specs.declared.facts.KeyWrites.TheVariants.{Never, Once, Twice}
use Rattle.meaning_facts.specs.declared.facts.Facts.{Facts}
use Rattle.meaning_facts.specs.declared.instances.LoopVariable.{LoopVariable}
use Rattle.meaning_facts.specs.declared.instances.Instance.{Instance}

-- FACTS

abbrev pub same_place : Place → Place → Bool
same_place p q = nat_eq p.instance q.instance && nat_eq p.node q.node

abbrev pub same_pair : ℕ × ℕ → ℕ × ℕ → Bool
same_pair p q = nat_eq p.0 q.0 && nat_eq p.1 q.1

abbrev pub value_at : Facts → Place → Option Value
value_at k p = get same_pair k.values (p.instance, p.node)

abbrev pub line_at : Facts → Place → Option (List ℕ)
line_at k p = get same_pair k.lines (p.instance, p.node)

-- the lines, in no particular order
abbrev pub all_lines : Facts → List (List ℕ)
all_lines k = values k.lines

abbrev pub listed_writes : Option (List Write) → List Write
listed_writes (Some ws) = ws
listed_writes None = []

abbrev pub writes_at : Facts → Place → List Write
writes_at k p = listed_writes (get same_pair k.writes (p.instance, p.node))

-- the scalars written at a key
abbrev pub writes_under : List Write → Key → List Scalar
writes_under [] k = []
writes_under (w ∷ ws) k = if same_key w.key k then w.value ∷ writes_under ws k else writes_under ws k

abbrev pub is_written_in : List Write → Key → Place → Bool
is_written_in [] k p = false
is_written_in (w ∷ ws) k p = (same_key w.key k && same_place w.writer p) || is_written_in ws k p

-- inserts an element among others, unless its key is present
abbrev pub put_unless : Option Scalar → Write → List Element → List Element
put_unless (Some v) w es = es
put_unless None w es = inserted w.key w.value es

abbrev pub put_write : List Element → Write → List Element
put_write es w = put_unless (found w.key es) w es

-- inserts the written elements among others, by rising key
abbrev pub elements_from : List Element → List Write → List Element
elements_from es [] = es
elements_from es (w ∷ ws) = elements_from (put_write es w) ws

-- the writes of a key: none, one scalar, or several
abbrev pub WrittenAs : KeyWrites → List Scalar → Type 0
WrittenAs Never vs = vs ≡ []
WrittenAs (Once v) vs = vs ≡ v.now ∷ []
WrittenAs Twice vs = (u : Scalar) × (v : Scalar) × (ws : List Scalar) × (vs ≡ u ∷ v ∷ ws)

-- INSTANCES

abbrev pub parent_in : Option Instance → ℕ
parent_in (Some n) = n.parent
parent_in None = 0

abbrev pub parent_of : List Instance → ℕ → ℕ
parent_of ns i = parent_in (slice_get ns i)

-- the ancestor a number of levels up
abbrev pub outward : List Instance → ℕ → ℕ → ℕ
outward ns zero i = i
outward ns (suc up) i = outward ns up (parent_of ns i)

abbrev pub inputs_in : Option Instance → List Place
inputs_in (Some n) = n.given.inputs.items
inputs_in None = []

abbrev pub inputs_of : List Instance → ℕ → List Place
inputs_of ns i = inputs_in (slice_get ns i)

abbrev pub outputs_in : Option Instance → List Place
outputs_in (Some n) = n.given.outputs.items
outputs_in None = []

abbrev pub outputs_of : List Instance → ℕ → List Place
outputs_of ns i = outputs_in (slice_get ns i)

abbrev pub variables_in : Option Instance → List LoopVariable
variables_in (Some n) = n.given.variables.items
variables_in None = []

abbrev pub variables_of : List Instance → ℕ → List LoopVariable
variables_of ns i = variables_in (slice_get ns i)

abbrev pub variable_in : List LoopVariable → ℕ → Option Scalar
variable_in [] n = None
variable_in (v ∷ vs) n = if nat_eq v.node n then Some v.value else variable_in vs n

abbrev pub place_or : Option Place → ℕ → Place
place_or (Some p) parent = p
place_or None parent = record { instance = parent; node = 0 }

abbrev pub given_at : List Place → ℕ → (parent : ℕ) → Place
given_at ps i parent = place_or (slice_get ps i) parent

-- the place of a variable that an instance owns
abbrev pub owner_spot : List Instance → ℕ → Owned → Place
owner_spot ns i (local n) = record { instance = i; node = n }
owner_spot ns i (input j) = given_at (inputs_of ns i) j (parent_of ns i)
owner_spot ns i (output j) = given_at (outputs_of ns i) j (parent_of ns i)

-- the place of a name in an instance
abbrev pub spot : List Instance → ℕ → Name → Place
spot ns i x = owner_spot ns (outward ns x.up i) x.what

-- the places of names in an instance
abbrev pub spots : List Instance → ℕ → List Name → List Place
spots ns i xs = map (λ x. spot ns i x) xs
