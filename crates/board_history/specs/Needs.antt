-- The missing inputs of an item of an instance, computed from the fields of a board.
use Rattle.std.specs.Prelude.{ℕ, Bool, true, false, ◌&&◌, ◌||◌, not, List, [], ◌∷◌, Option, Some, None, nat_eq, if◌then◌else◌}
use Rattle.std.specs.List.{flat_map, filter}
use Rattle.board_history.specs.Fields.{Absent, AnElement, Content, Counted, DatumOf, Does, Fields, Holding, Job, Layout, LiteralOf, Mapping, Script, Slot, Unset, Want, Whole, literal, slot_at, slot_for}
use Rattle.board_history.specs.Stands.{array_wanted, element_wanted, scalar_wanted}
use Rattle.task_code.specs.Code.{At, AtKey, Closed, Code, Name, Need, Stored, entry}
use Rattle.task_code.specs.Compute.{Elements, key_of}
use Rattle.values.specs.Keys.{hash_of, same_key}
use Rattle.values.specs.declared.key.Key.{Key}
use Rattle.values.specs.declared.value.Scalar.{Scalar}

-- the value of a scalar, or None if it has none yet, and the elements of an array
abbrev pub value_in : Content → Option Scalar
value_in Unset = None
value_in (Holding v) = Some v
value_in (Mapping xs) = None

abbrev pub elements_in : Content → Elements
elements_in Unset = []
elements_in (Holding v) = []
elements_in (Mapping xs) = xs

abbrev pub is_array_content : Content → Bool
is_array_content Unset = false
is_array_content (Holding v) = false
is_array_content (Mapping xs) = true

-- the value under a key
abbrev pub found : Key → Elements → Option Scalar
found k [] = None
found k (x ∷ xs) = if same_key k x.0 then Some x.1 else found k xs

-- for a datum that may have been removed: its value, its element at a key, and whether no item may write it
abbrev pub cell_value : Option Counted → Option Scalar
cell_value None = None
cell_value (Some c) = value_in c.content

abbrev pub cell_element : Key → Option Counted → Option Scalar
cell_element k None = None
cell_element k (Some c) = found k (elements_in c.content)

abbrev pub is_shut : Option Counted → Bool
is_shut None = true
is_shut (Some c) = nat_eq c.writes 0

-- the missing inputs of a scalar, of a whole array and of an element
abbrev pub scalar_missed : List (Option Counted) → Slot → List (Want ℕ)
scalar_missed cs Absent = []
scalar_missed cs (LiteralOf e k) = []
scalar_missed cs (DatumOf d) = scalar_wanted (cell_value (slot_at cs d)) d

abbrev pub array_missed : List (Option Counted) → Slot → List (Want ℕ)
array_missed cs Absent = []
array_missed cs (LiteralOf e k) = []
array_missed cs (DatumOf d) = array_wanted (is_shut (slot_at cs d)) d

abbrev pub element_missed : List (Option Counted) → Slot → Key → List (Want ℕ)
element_missed cs Absent k = []
element_missed cs (LiteralOf e n) k = []
element_missed cs (DatumOf d) k = element_wanted (cell_element k (slot_at cs d)) (is_shut (slot_at cs d)) d (hash_of k)

-- the index is missing first: its own value, or a literal
abbrev pub indexed_missed : List (Option Counted) → ℕ → ℕ → Option Scalar → List (Want ℕ)
indexed_missed cs a i None = Whole i ∷ []
indexed_missed cs a i (Some v) = element_missed cs (DatumOf a) (key_of v)

abbrev pub literal_missed : List (Option Counted) → ℕ → Option Scalar → List (Want ℕ)
literal_missed cs a None = []
literal_missed cs a (Some v) = element_missed cs (DatumOf a) (key_of v)

module _ (C : Code) where
  abbrev pub index_missed : List (Option Counted) → ℕ → Slot → List (Want ℕ)
  index_missed cs a Absent = []
  index_missed cs a (DatumOf i) = indexed_missed cs a i (cell_value (slot_at cs i))
  index_missed cs a (LiteralOf e k) = literal_missed cs a (literal C e k)

  abbrev pub at_missed : List (Option Counted) → Slot → Slot → List (Want ℕ)
  at_missed cs Absent i = []
  at_missed cs (LiteralOf e k) i = []
  at_missed cs (DatumOf a) i = index_missed cs a i

  -- the missing inputs of one need, by the slots of its names
  abbrev pub missed : List (Option Counted) → (Name → Slot) → Need → List (Want ℕ)
  missed cs f (Stored r) = scalar_missed cs (f r)
  missed cs f (Closed r) = array_missed cs (f r)
  missed cs f (At a r) = at_missed cs (f a) (f r)
  missed cs f (AtKey a k) = element_missed cs (f a) k

  -- the missing inputs of an item, in the order of its needs
  abbrev pub job_missed : Layout → Fields → Job → List (Want ℕ)
  job_missed l F Script = []
  job_missed l F (Does k e c) = elim (slot_at F.frames k) [ None ↦ [] | Some f ↦ flat_map (missed F.cells (slot_for l F.frames k f.body)) (entry C e).needs ]

-- the first input implies the second: they are equal, or the first is a closed array and the second one of its elements
abbrev pub covers : Want ℕ → Want ℕ → Bool
covers (Whole a) (Whole b) = nat_eq a b
covers (Whole a) (AnElement b k) = nat_eq a b
covers (AnElement a k) (Whole b) = false
covers (AnElement a k) (AnElement b l) = nat_eq a b && nat_eq k l

abbrev pub is_covered : List (Want ℕ) → Want ℕ → Bool
is_covered [] w = false
is_covered (v ∷ vs) w = covers v w || is_covered vs w

-- the inputs still missing once these are known
abbrev pub still_missed : List (Want ℕ) → List (Want ℕ) → List (Want ℕ)
still_missed known ws = filter (λ w. not (is_covered known w)) ws

-- the input is known: the scalar has a value, no item may write the array, the element is present, or the datum was
-- removed
abbrev pub cell_known : Option Counted → Bool
cell_known None = true
cell_known (Some c) = by c.content
  where
    by : Content → Bool
    by Unset = false
    by (Holding v) = true
    by (Mapping xs) = nat_eq c.writes 0

abbrev pub has : Option Scalar → Bool
has None = false
has (Some v) = true

-- an element of this hash is present; it may differ from the awaited one
abbrev pub has_hash : ℕ → Elements → Bool
has_hash m [] = false
has_hash m (x ∷ xs) = nat_eq m (hash_of x.0) || has_hash m xs

abbrev pub cell_hashed : ℕ → Option Counted → Bool
cell_hashed m None = false
cell_hashed m (Some c) = has_hash m (elements_in c.content)

abbrev pub is_known : List (Option Counted) → Want ℕ → Bool
is_known cs (Whole d) = cell_known (slot_at cs d)
is_known cs (AnElement d m) = cell_hashed m (slot_at cs d) || is_shut (slot_at cs d)
