-- The view of a store: data under numbers.
use Rattle.std.specs.Prelude.{◌≡◌, ◌≢◌, ◌-◌, ◌+◌, ◌≤◌, max, ℕ, List, [], Option, Some, None, is_some, IsSome, IsSomeAnd, option_map, slice_set, slice_index_or, count_by}
use Rattle.values.specs.declared.value.Scalar.{Scalar}
use Rattle.data_store.specs.Arrays.{Array}
use Rattle.data_store.specs.declared.datum.Content.TheVariants.{OfScalar}
use Rattle.data_store.specs.declared.datum.Datum.{Datum}
use Rattle.values.specs.declared.datum_kind.DatumKind.{DatumKind}
use Rattle.data_store.specs.Data.{shape_of, IsScalar, IsArray, array_in, value_of, nothing, kept}

-- The datum under each number from 0 on, or nothing. The room is the number of further data that are sure to find
-- memory; their numbers are below the bound.
pub record Store : Type 0 where
  pub cells : List (Option Datum)
  pub room : ℕ
  pub bound : ℕ

-- no data, and no room is promised
abbrev pub empty : Store
empty = record { cells = []; room = 0; bound = 0 }

-- the datum under a number
abbrev pub at : Store → ℕ → Option Datum
at s d = slice_index_or s.cells d None

-- the number of data
abbrev pub live : Store → ℕ
live s = count_by is_some s.cells

-- the number has a datum
abbrev pub IsLive : Store → ℕ → Type 0
IsLive s d = IsSome (at s d)

-- the kind of the datum under a number
abbrev pub shape_at : Store → ℕ → Option DatumKind
shape_at s d = option_map (λ x. shape_of x.content) (at s d)

-- the datum under the number is a scalar
abbrev pub IsScalarAt : Store → ℕ → Type 0
IsScalarAt s d = IsSomeAnd (at s d) (λ x. IsScalar x.content)

-- the datum under the number is an array
abbrev pub IsArrayAt : Store → ℕ → Type 0
IsArrayAt s d = IsSomeAnd (at s d) (λ x. IsArray x.content)

-- the datum, or one without holds if there is none
abbrev pub or_none : Option Datum → Datum
or_none None = record { content = OfScalar None; reads = 0; writes = 0 }
or_none (Some x) = x

-- the datum under a number that has one
abbrev pub datum : Store → ℕ → Datum
datum s d = or_none (at s d)

-- the value of the scalar under a number, if it has one
abbrev pub value_at : Store → ℕ → Option Scalar
value_at s d = value_of (datum s d).content

-- the array under a number
abbrev pub array_at : Store → ℕ → Array
array_at s d = array_in (datum s d).content

-- a new datum
abbrev pub fresh : DatumKind → ℕ → ℕ → Datum
fresh shape reads writes = record { content = nothing shape; reads = reads; writes = writes }

-- the store after a change of one datum
abbrev pub changed : ℕ → (Datum → Datum) → Store → Store
changed d change s = record s { cells = slice_set s.cells d (option_map change (at s d)) }

-- a datum after a change, which frees it if no hold is left
abbrev pub kept_after : (Datum → Datum) → Option Datum → Option Datum
kept_after change None = None
kept_after change (Some x) = kept (change x)

-- the store after one datum has given up a hold
abbrev pub given_up : ℕ → (Datum → Datum) → Store → Store
given_up d change s = record s { cells = slice_set s.cells d (kept_after change (at s d)) }

-- the same data, with room for at least n
abbrev pub with_room : ℕ → Store → Store
with_room n s = record s { room = max s.room n }

-- the same data, with another bound
abbrev pub with_bound : ℕ → Store → Store
with_bound b s = record s { bound = b }

-- The number that had no datum has this one. Nothing else has changed, except for the room that it used.
pub record Adds (old : Store) (d : ℕ) (x : Datum) (new : Store) : Type 0 where
  pub was_free : at old d ≡ None
  pub has : at new d ≡ Some x
  pub others : (e : ℕ) → e ≢ d → at new e ≡ at old e
  pub more : live new ≡ live old + 1
  pub room : new.room ≡ old.room - 1

-- there is memory for the room that is promised
abbrev pub HasRoom : List (Option Datum) → ℕ → ℕ → Type 0
HasRoom cells capacity room = count_by is_some cells + room ≤ capacity
