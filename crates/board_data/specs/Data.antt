-- The results of the total wrappers for the calls of a store.
use Rattle.std.specs.Prelude.{◌≡◌, ℕ, List, ◌+◌, ◌^◌, Bool, true, false, ◌&&◌, ◌==◌, Option, Some, None, nat_lt, if◌then◌else◌}
use Rattle.data_store.specs.Data.{with_array, with_holds, with_value, without_read, without_write}
use Rattle.data_store.specs.Arrays.{with_room_for}
use Rattle.values.specs.declared.key.Key.{Key}
use Rattle.data_store.specs.Stores.{Store, array_at, at, changed, datum, given_up}
use Rattle.data_store.specs.declared.datum.Content.{Content}
use Rattle.data_store.specs.declared.datum.Content.TheVariants.{OfArray, OfScalar}
use Rattle.data_store.specs.declared.datum.Datum.{Datum}
use Rattle.values.specs.Maps.{rising}
use Rattle.values.specs.declared.map.Element.{Element}
use Rattle.values.specs.declared.value.Scalar.{Scalar}

-- no item may write it any more
abbrev pub is_closed_at : Store → ℕ → Bool
is_closed_at s d = (datum s d).writes == 0

-- a scalar without a value
abbrev pub is_unset : Option Datum → Bool
is_unset None = false
is_unset (Some x) = by x.content
  where
    by : Content → Bool
    by (OfScalar None) = true
    by (OfScalar (Some v)) = false
    by (OfArray a) = false

-- a scalar without a value has this one now
abbrev pub given : ℕ → Scalar → Store → Store
given d v s = if is_unset (at s d) then changed d (with_value v) s else s

-- one hold less, if there is one
abbrev pub released : ℕ → Store → Store
released d s = if (datum s d).reads == 0 then s else given_up d without_read s

abbrev pub writer_closed : ℕ → Store → Store
writer_closed d s = if (datum s d).writes == 0 then s else given_up d without_write s

-- the value is set, if there is one
abbrev pub given_if : ℕ → Option Scalar → Store → Store
given_if d None s = s
given_if d (Some v) s = given d v s

-- an array
abbrev pub is_keyed : Option Datum → Bool
is_keyed None = false
is_keyed (Some x) = by x.content
  where
    by : Content → Bool
    by (OfScalar v) = false
    by (OfArray a) = true

-- both counts with these additions fit in 64 bits
abbrev pub fits : Option Datum → (reads writes : ℕ) → Bool
fits None r w = false
fits (Some x) r w = nat_lt (x.reads + r) (2 ^ 64) && nat_lt (x.writes + w) (2 ^ 64)

-- these holds more, if there is a datum and they fit
abbrev pub held : ℕ → (reads writes : ℕ) → Store → Store
held d r w s = if fits (at s d) r w then changed d (with_holds r w) s else s

-- the removal of one hold for writing closes the array
abbrev pub closes : Option Datum → Bool
closes None = false
closes (Some x) = is_keyed (Some x) && (x.writes == 1)

-- an array has room for n elements under keys of the kind of this one
abbrev pub roomy : Option ℕ → Key → ℕ → Store → Store
roomy None k n s = s
roomy (Some d) k n s = if is_keyed (at s d) then changed d (with_array (with_room_for k n)) s else s

-- the elements of an array, if there is one
abbrev pub listed_at : Store → ℕ → Option (List Element)
listed_at s d = if is_keyed (at s d) then Some (array_at s d).elements else None

-- the elements of each array are listed by ascending key
abbrev pub AreRising : Store → Type 0
AreRising s = (d : ℕ) → rising (array_at s d).elements ≡ true
