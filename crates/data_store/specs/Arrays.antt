-- The elements of an array.
use Rattle.std.specs.Prelude.{◌≡◌, ◌≤◌, ℕ, ℤ, ◌-◌, ◌++◌, max, Bool, true, false, List, [], ◌∷◌, length, Option, Some, None, IfSome}
use Rattle.std.specs.declared.boxed.Box.{Box}
use Rattle.values.specs.declared.key.Key.{Key}
use Rattle.values.specs.declared.key.Key.TheVariants.{Number, Text}
use Rattle.values.specs.declared.map.Element.{Element}
use Rattle.values.specs.declared.value.Scalar.{Scalar}
use Rattle.values.specs.Maps.{inserted, element}

-- elements under keys of one kind, by ascending key, and the number of further ones that are sure to find memory
pub record Table : Type 0 where
  pub entries : List Element
  pub places : ℕ

-- no elements, and no room is promised
abbrev pub no_table : Table
no_table = record { entries = []; places = 0 }

-- the contents of a table, if there is one
abbrev pub table_of : {A : Type 0} → Option (Box Table A) → Table
table_of None = no_table
table_of (Some index) = index.value

-- one more element, which uses one place of the room, if there is any
abbrev pub with_entry : Key → Scalar → Table → Table
with_entry k v a = record { entries = inserted k v a.entries; places = a.places - 1 }

-- the same elements, with room for at least n
abbrev pub with_places : ℕ → Table → Table
with_places n a = record a { places = max a.places n }

-- the same elements, with room for n
abbrev pub limited : ℕ → Table → Table
limited n a = record a { places = n }

-- the elements of an array by ascending key, and the numbers of further ones under numbers and under texts that are
-- sure to find memory
pub record Array : Type 0 where
  pub elements : List Element
  pub room : ℕ
  pub text_room : ℕ

-- no elements, and no room is promised
abbrev pub empty : Array
empty = record { elements = []; room = 0; text_room = 0 }

-- the elements under numbers, followed by those under texts
abbrev pub together : Table → Table → Array
together numbers texts = record { elements = numbers.entries ++ texts.entries; room = numbers.places; text_room = texts.places }

-- the room for keys of the same kind as this one
abbrev pub room_for : Key → Array → ℕ
room_for (Number n) a = a.room
room_for (Text bytes) a = a.text_room

-- the same elements, with room for at least n keys of the same kind as this one
abbrev pub with_room_for : Key → ℕ → Array → Array
with_room_for (Number z) n a = record a { room = max a.room n }
with_room_for (Text bytes) n a = record a { text_room = max a.text_room n }

-- the same elements, with room for at least n of either kind
abbrev pub with_room : ℕ → Array → Array
with_room n a = record a { room = max a.room n; text_room = max a.text_room n }

-- one more element, which uses one place of the room of its kind, if there is any
abbrev pub with_element : Key → Scalar → Array → Array
with_element (Number z) v a = record { elements = inserted (Number z) v a.elements; room = a.room - 1; text_room = a.text_room }
with_element (Text bytes) v a = record { elements = inserted (Text bytes) v a.elements; room = a.room; text_room = a.text_room - 1 }

-- the element of a number and a scalar
abbrev pub number_element : ℤ × Scalar → Element
number_element e = element (Number e.0) e.1

-- the element of a text and a scalar
abbrev pub text_element : List ℕ × Scalar → Element
text_element e = element (Text e.0) e.1

-- elements in any order, sorted by ascending key
abbrev pub arranged : List Element → List Element
arranged [] = []
arranged (e ∷ es) = inserted e.key e.value (arranged es)

-- The invariant of elements in slots and in a table with this spare capacity. The keys are distinct, the sorted list is
-- right if it was made, and the promised room is spare.
pub record IsKept (es : List Element) (spare : ℕ) (sorted : Option (List Element)) (room : ℕ) : Type 0 where
  pub counted : length (arranged es) ≡ length es
  pub in_order : IfSome sorted (λ map. map ≡ arranged es)
  pub has_room : room ≤ spare

-- the key is a number
abbrev pub is_number : Key → Bool
is_number (Number n) = true
is_number (Text bytes) = false

-- each key is a number, or each is a text
abbrev pub HaveKind : Bool → List Element → Type 0
HaveKind number [] = Unit {0}
HaveKind number (e ∷ es) = (is_number e.key ≡ number) × HaveKind number es

-- elements under numbers alone, and elements under texts alone
pub record AreParted (first second : List Element) : Type 0 where
  pub numbers : HaveKind true first
  pub texts : HaveKind false second
