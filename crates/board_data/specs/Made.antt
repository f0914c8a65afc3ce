-- Data that are made for the variables of an instance.
use Rattle.std.specs.Prelude.{◌≡◌, ◌≢◌, ◌⊎◌, ◌≤◌, ◌<◌, ◌+◌, ℕ, List, Option, Some, None, slice_index_or, if◌then◌else◌}
use Rattle.std.specs.List.{slice_get}
use Rattle.data_store.specs.Arrays.{empty}
use Rattle.data_store.specs.Stores.{Store, at}
use Rattle.data_store.specs.declared.datum.Content.{Content}
use Rattle.data_store.specs.declared.datum.Content.TheVariants.{OfArray, OfScalar}
use Rattle.data_store.specs.declared.datum.Datum.{Datum}
use Rattle.values.specs.declared.datum_kind.DatumKind.{DatumKind}
use Rattle.values.specs.declared.datum_kind.DatumKind.TheVariants.{Single, Keyed}
use Rattle.board_program.specs.Tables.{is_place}
use Rattle.board_program.specs.declared.program.LocalVariable.{LocalVariable}
use Rattle.board_instances.specs.declared.instance.Slot.{Slot}
use Rattle.board_instances.specs.declared.instance.Slot.TheVariants as Slots
use Rattle.board_data.specs.declared.making.InitialValues.{InitialValues}
use Rattle.values.specs.declared.value.Scalar.{Scalar}

-- the initial content of a new datum
abbrev pub started : DatumKind → Option Scalar → Content
started Single v = OfScalar v
started Keyed v = OfArray empty

abbrev pub new_datum : LocalVariable → Option Scalar → Datum
new_datum o v = record { content = started o.shape v; reads = o.reads; writes = o.writes }

-- the initial value for an index
abbrev pub start_at : InitialValues → ℕ → Option Scalar
start_at s i = if is_place i s.value_at then s.value else (if is_place i s.turn_at then s.turn else None)

-- a slot by its index
abbrev pub slot_in : List Slot → ℕ → Slot
slot_in xs i = slice_index_or xs i Slots.Absent

-- a number without datum has this one now, and the slot names it; nothing else has changed, apart from the room
pub record Makes (old : Store) (x : Datum) (slot : Slot) (new : Store) : Type 0 where
  pub key : ℕ
  pub slot_is : slot ≡ Slots.Datum key
  pub was_free : at old key ≡ None
  pub has : at new key ≡ Some x
  pub others : (e : ℕ) → e ≢ key → at new e ≡ at old e
  pub room : old.room ≤ new.room + 1

-- a new datum is that of the variable at an index, with its first counts and its value
pub record NewAt (old : Store) (slot : Slot) (x : Datum) (new : Store) : Type 0 where
  pub key : ℕ
  pub slot_is : slot ≡ Slots.Datum key
  pub was_free : at old key ≡ None
  pub has : at new key ≡ Some x

-- data were made for the first n of a body's variables: one for each that some entry names, each under a key of its
-- own, and nothing else has changed
pub record DataMade (own : List LocalVariable) (first : ℕ → Option Scalar) (n : ℕ) (old : Store) (slots : List Slot) (new : Store) : Type 0 where
  pub absent : (i : ℕ) (o : LocalVariable) → i < n → slice_get own i ≡ Some o → o.reads + o.writes ≡ 0 → slot_in slots i ≡ Slots.Absent
  pub made : (i : ℕ) (o : LocalVariable) → i < n → slice_get own i ≡ Some o → 0 < o.reads + o.writes → NewAt old (slot_in slots i) (new_datum o (first i)) new
  pub apart : (i j d : ℕ) → i < n → j < n → slot_in slots i ≡ Slots.Datum d → slot_in slots j ≡ Slots.Datum d → i ≡ j
  pub older : (d : ℕ) (x : Datum) → at old d ≡ Some x → at new d ≡ Some x
  pub only : (d : ℕ) (x : Datum) → at new d ≡ Some x → (at old d ≡ Some x) ⊎ ((i : ℕ) × (i < n) × (slot_in slots i ≡ Slots.Datum d))
  pub room : old.room ≤ new.room + n
