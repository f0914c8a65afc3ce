-- The data that a program keeps of what is known, as look-ups by place. The environment and past that follow from it.
use Rattle.std.specs.Prelude.{◌≡◌, ℕ, ◌<◌, Bool, true, false, List, [], ◌∷◌, length, map, nat_eq, Option, Some, None, if◌then◌else◌}
use Rattle.values.specs.declared.key.Key.{Key}
use Rattle.values.specs.declared.map.Element.{Element}
use Rattle.values.specs.declared.value.Scalar.{Scalar}
use Rattle.values.specs.declared.value.Value.{Value}
use Rattle.values.specs.declared.value.Value.TheVariants.{One, Many}
use Rattle.values.specs.Keys.{same_key}
use Rattle.values.specs.Maps.{found, inserted}
use Rattle.language.specs.Core.{Action, Block, Core, stmt}
use Rattle.language.specs.Facts.{Fault, value, element, line, fault, Knowledge}
use Rattle.language.specs.Meaning.{Closed, HasValue, Live, Ready}
use Rattle.language.specs.Members.{◌∈◌}
use Rattle.language.specs.Openings.{InTurn, Opens}
use Rattle.language.specs.Parts.{block_list}
use Rattle.language.specs.Places.{Path, Place, place, max_path_steps}
use Rattle.meaning_steps.specs.Environment.{Sight}
use Rattle.meaning_steps.specs.News.{Past}

-- a write of a key of an array
pub record Write : Type 0 where
  pub key : Key
  pub writer : Place
  pub value : Scalar

-- values, loop variables in their turns, closed arrays, writes, writers of keys, statements with lines, and faults
pub record Kept : Type 0 where
  pub value : Place → Option Value
  pub turn : Place → Option Scalar
  pub closed : Place → Bool
  pub writes : Place → List Write
  pub written : Place → Key → Place → Bool
  pub lined : Place → Bool
  pub faulted : Fault → ℕ → Place → Bool

-- no two writes have the same key and the same writer
abbrev pub AreApart : List Write → Type 0
AreApart [] = Unit {0}
AreApart (w ∷ ws) = ((u : Write) → u ∈ ws → u.key ≡ w.key → u.writer ≡ w.writer → ⊥) × AreApart ws

-- what is kept is exactly what is known
pub record Keeps (s : Core) (K : Knowledge) (k : Kept) : Type 0 where
  pub value_so : (p : Place) (v : Value) → k.value p ≡ Some v → K (value p v)
  pub value_all : (p : Place) (v : Value) → K (value p v) → k.value p ≡ Some v
  pub turn_so : (p : Place) (v : Scalar) → k.turn p ≡ Some v → HasValue s K p v
  pub turn_all : (path : Path) (c : Block) (at n x : ℕ) (header : Action) (vs : List Value) (key : Key) (b : Block) (v : Scalar)
      → Live s K path c → stmt at n header ∈ block_list c → Ready s K path header vs → Opens header vs key b → InTurn header vs key x v → length path < max_path_steps
      → k.turn ((at, key) ∷ path, x) ≡ Some v
  pub closed_so : (a : Place) → k.closed a ≡ true → Closed s K a
  pub closed_all : (a : Place) → Closed s K a → k.closed a ≡ true
  pub write_so : (a : Place) (w : Write) → w ∈ k.writes a → K (element a w.key w.writer w.value)
  pub write_all : (a : Place) (key : Key) (w : Place) (v : Scalar) → K (element a key w v) → record { key = key; writer = w; value = v } ∈ k.writes a
  pub write_once : (a : Place) → AreApart (k.writes a)
  pub written_so : (a : Place) (key : Key) (w : Place) → k.written a key w ≡ true → (v : Scalar) × K (element a key w v)
  pub written_all : (a : Place) (key : Key) (w : Place) (v : Scalar) → K (element a key w v) → k.written a key w ≡ true
  pub lined_so : (p : Place) → k.lined p ≡ true → (bytes : List ℕ) × K (line p bytes)
  pub faulted_so : (f : Fault) (at : ℕ) (p : Place) → k.faulted f at p ≡ true → K (fault f at p)

-- THE ENVIRONMENT

-- a known scalar, or otherwise the value of a loop variable
abbrev pub scalar_by : Option Value → Option Scalar → Option Scalar
scalar_by (Some (One v)) o = Some v
scalar_by (Some (Many es)) o = o
scalar_by None o = o

-- the scalars written at a key
abbrev pub values_under : List Write → Key → List Scalar
values_under [] key = []
values_under (w ∷ ws) key = if same_key w.key key then w.value ∷ values_under ws key else values_under ws key

abbrev pub element_of : Write → Element
element_of w = record { key = w.key; value = w.value }

-- inserts an element among others, unless its key is present
abbrev pub put_unless : Option Scalar → Element → List Element → List Element
put_unless (Some v) e es = es
put_unless None e es = inserted e.key e.value es

abbrev pub put_first : List Element → Element → List Element
put_first es e = put_unless (found e.key es) e es

-- inserts elements among others by rising key, the first of each key
abbrev pub by_key_beside : List Element → List Element → List Element
by_key_beside es [] = es
by_key_beside es (d ∷ ds) = by_key_beside (put_first es d) ds

abbrev pub by_key : List Element → List Element
by_key ds = by_key_beside [] ds

abbrev pub sight_by : Core → Kept → Path → Sight
sight_by s k path = record {
  scalar = λ x. scalar_by (k.value (place s path x)) (k.turn (place s path x));
  closed = λ a. k.closed (place s path a);
  elements = λ a. by_key (map element_of (k.writes (place s path a)));
  writes = λ a key. values_under (k.writes (place s path a)) key;
  cell = λ n. k.value (path, n);
}

-- FACTS DERIVED BEFORE

abbrev pub is_there : Option Value → Bool
is_there (Some v) = true
is_there None = false

abbrev pub some_in : List Scalar → Bool
some_in [] = false
some_in (v ∷ vs) = true

abbrev pub several_in : List Scalar → Bool
several_in [] = false
several_in (v ∷ vs) = some_in vs

abbrev pub past_by : Core → Kept → Path → Past
past_by s k path = record {
  valued = λ x. is_there (k.value (place s path x));
  written = λ a key n. k.written (place s path a) key (path, n);
  twice = λ a key. several_in (values_under (k.writes (place s path a)) key);
  lined = λ n. k.lined (path, n);
  faulted = λ f at n. k.faulted f at (path, n);
  deep = nat_eq (length path) max_path_steps;
}
