-- Facts that can be known of a script's run. States docs/LANGUAGE.md: Knowledge; Faults.
use Rattle.std.specs.Prelude.{◌≡◌, ℕ, ℤ, IsTrue, List, [], ◌∷◌}
use Rattle.values.specs.declared.fault.OpFault.{OpFault}
use Rattle.values.specs.declared.key.Key.{Key}
use Rattle.values.specs.declared.map.Element.{Element}
use Rattle.values.specs.declared.value.Scalar.{Scalar}
use Rattle.values.specs.declared.value.Value.{Value}
use Rattle.values.specs.declared.value.Value.TheVariants.{One}
use Rattle.values.specs.Maps.{rising, element as entry}
use Rattle.language.specs.Core.{Cell}
use Rattle.language.specs.Members.{◌∈◌}
use Rattle.language.specs.Places.{Path, Place}

-- a fault at a place: of an operator, a conversion or a range, a missing element, a key that is written twice, a path
-- that would be too long (docs/LANGUAGE.md, Faults)
pub data Fault : Type 0 where
  operation : OpFault → Fault
  no_element element_twice too_deep : Fault

-- a fact: the value of a cell or of a scalar variable; a write of an array's key, with its writer; a line; a fault of the
-- statement at an offset (docs/LANGUAGE.md, Knowledge)
pub data Fact : Type 0 where
  value : Place → Value → Fact
  element : (array : Place) → Key → (writer : Place) → Scalar → Fact
  line : (writer : Place) → List ℕ → Fact
  fault : Fault → (at : ℕ) → Place → Fact

-- knowledge: a set of facts (docs/LANGUAGE.md, Knowledge)
abbrev pub Knowledge : Type 1
Knowledge = Fact → Type 0

-- a value that is a key
pub data IsKey : Value → Key → Type 0 where
  a_number : {z : ℤ} → IsKey (One (Scalar.Number z)) (Key.Number z)
  a_text : {bytes : List ℕ} → IsKey (One (Scalar.Text bytes)) (Key.Text bytes)

-- a key as a value
abbrev pub key_value : Key → Scalar
key_value (Key.Number z) = Scalar.Number z
key_value (Key.Text bytes) = Scalar.Text bytes

-- a key has one write, and it has this value
pub record OneWrite (K : Knowledge) (a : Place) (k : Key) (v : Scalar) : Type 0 where
  pub writer : Place
  pub write : K (element a k writer v)
  pub only : (w : Place) (u : Scalar) → K (element a k w u) → w ≡ writer

-- no key of an array has two writers
abbrev pub OneWriter : Knowledge → Place → Type 0
OneWriter K a = (k : Key) (w w' : Place) (v v' : Scalar) → K (element a k w v) → K (element a k w' v') → w ≡ w'

-- the elements of an array, by rising key
pub record Elements (K : Knowledge) (a : Place) (es : List Element) : Type 0 where
  pub in_order : IsTrue (rising es)
  pub written : (k : Key) (v : Scalar) → entry k v ∈ es → (w : Place) × K (element a k w v)
  pub all : (k : Key) (w : Place) (v : Scalar) → K (element a k w v) → entry k v ∈ es

-- the values of cells are known
pub data KnownAll (K : Knowledge) (path : Path) : List Cell → List Value → Type 0 where
  no_cell : KnownAll K path [] []
  next_cell : {c : Cell} {cs : List Cell} {v : Value} {vs : List Value} → K (value (path, c.node) v) → KnownAll K path cs vs
      → KnownAll K path (c ∷ cs) (v ∷ vs)
