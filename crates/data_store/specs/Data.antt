-- Data and their counts.
use Rattle.std.specs.Prelude.{◌≡◌, ◌-◌, ◌+◌, ◌==◌, ◌&&◌, ◌<◌, ℕ, Bool, IsSome, Option, Some, None, if◌then◌else◌}
use Rattle.values.specs.declared.key.Key.{Key}
use Rattle.values.specs.declared.value.Scalar.{Scalar}
use Rattle.values.specs.Maps.{found}
use Rattle.data_store.specs.Arrays as arrays
use Rattle.data_store.specs.Arrays.{Array}
use Rattle.data_store.specs.declared.datum.Content.{Content}
use Rattle.data_store.specs.declared.datum.Content.TheVariants.{OfScalar, OfArray}
use Rattle.data_store.specs.declared.datum.Datum.{Datum}
use Rattle.values.specs.declared.datum_kind.DatumKind.{DatumKind}
use Rattle.data_store.specs.declared.refusal.StoreRefusal.{StoreRefusal}
use Rattle.data_store.specs.declared.refusal.StoreRefusal.TheVariants.{AlreadySet, ElementTwice, Closed, Memory}
use Rattle.values.specs.declared.datum_kind.DatumKind.TheVariants.{Single, Keyed}

-- the content of a new datum
abbrev pub nothing : DatumKind → Content
nothing Single = OfScalar None
nothing Keyed = OfArray arrays.empty

-- the kind of a content
abbrev pub shape_of : Content → DatumKind
shape_of (OfScalar value) = Single
shape_of (OfArray array) = Keyed

-- the content is a scalar
abbrev pub IsScalar : Content → Type 0
IsScalar (OfScalar value) = Unit {0}
IsScalar (OfArray array) = ⊥

-- the content is an array
abbrev pub IsArray : Content → Type 0
IsArray (OfScalar value) = ⊥
IsArray (OfArray array) = Unit {0}

-- the value of a scalar, if it has one
abbrev pub value_of : Content → Option Scalar
value_of (OfScalar value) = value
value_of (OfArray array) = None

-- the elements of an array and the room that is promised
abbrev pub array_in : Content → Array
array_in (OfScalar value) = arrays.empty
array_in (OfArray array) = array

-- a scalar with this value
abbrev pub with_value : Scalar → Datum → Datum
with_value v x = record x { content = OfScalar (Some v) }

-- an array after a change
abbrev pub with_array : (Array → Array) → Datum → Datum
with_array change x = record x { content = OfArray (change (array_in x.content)) }

-- more holds
abbrev pub with_holds : ℕ → ℕ → Datum → Datum
with_holds reads writes x = record x { reads = x.reads + reads; writes = x.writes + writes }

-- one hold for reading less
abbrev pub without_read : Datum → Datum
without_read x = record x { reads = x.reads - 1 }

-- one hold for writing less
abbrev pub without_write : Datum → Datum
without_write x = record x { writes = x.writes - 1 }

-- no hold is left
abbrev pub is_spent : Datum → Bool
is_spent x = (x.reads == 0) && (x.writes == 0)

-- the datum, or nothing if no hold is left
abbrev pub kept : Datum → Option Datum
kept x = if is_spent x then None else Some x

-- a put is refused if and only if there is a value
abbrev pub RefusesPut : Datum → StoreRefusal → Type 0
RefusesPut x AlreadySet = IsSome (value_of x.content)
RefusesPut x _ = ⊥

-- The reason why an insert under a key is refused. The array is closed; or the key has an element; or an allocation
-- failed and no room was promised.
abbrev pub RefusesInsert : Key → Datum → StoreRefusal → Type 0
RefusesInsert k x Closed = x.writes ≡ 0
RefusesInsert k x ElementTwice = (0 < x.writes) × IsSome (found k (array_in x.content).elements)
RefusesInsert k x Memory = (0 < x.writes) × (found k (array_in x.content).elements ≡ None) × (arrays.room_for k (array_in x.content) ≡ 0)
RefusesInsert k x AlreadySet = ⊥
