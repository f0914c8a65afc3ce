-- Data that are made for the variables of an instance.
use Rattle.std.proofs.Common.{◌≡◌, ◌∙◌, refl, sym, ap, subst, Bool, true, false, ℕ, ◌≤◌, ◌+◌, ◌-◌, option_map, Some, None, arith}
use Rattle.std.specs.Prelude.{if◌then◌else◌}
use Rattle.data_store.specs.Arrays as arrays
use Rattle.data_store.specs.Data.{nothing, with_value}
use Rattle.data_store.specs.Stores.{Adds, Store, at, changed, fresh}
use Rattle.data_store.specs.declared.datum.Content.TheVariants.{OfArray, OfScalar}
use Rattle.data_store.specs.declared.datum.Datum.{Datum}
use Rattle.values.specs.declared.datum_kind.DatumKind.{DatumKind}
use Rattle.values.specs.declared.datum_kind.DatumKind.TheVariants.{Single, Keyed}
use Rattle.board_program.specs.declared.program.LocalVariable.{LocalVariable}
use Rattle.board_instances.specs.declared.instance.Slot.TheVariants as Slots
use Rattle.board_data.specs.Data.{given, is_unset}
use Rattle.board_data.specs.Made.{Makes, new_datum, started}
use Rattle.board_data.proofs.Changes.{set_elsewhere, set_here}
use Rattle.values.specs.declared.value.Scalar.{Scalar}

less : (n : ℕ) → n ≤ (n - 1) + 1
less n = omega arith

made_plain : (old mid : Store) (d : ℕ) (x y : Datum) → Adds old d x mid → x ≡ y → Makes old y (Slots.Datum d) mid
made_plain old mid d x y a e = record { key = d; slot_is = refl; was_free = a.was_free; has = a.has ∙ ap Some e; others = a.others; room = subst (λ n. old.room ≤ n + 1) (sym a.room) (less old.room) }

-- a scalar that has been given its value
made_given : (old mid : Store) (d r w : ℕ) (v : Scalar) → Adds old d (fresh Single r w) mid → Makes old (record { content = OfScalar (Some v); reads = r; writes = w }) (Slots.Datum d) (given d v mid)
made_given old mid d r w v a = subst (λ s. Makes old (record { content = OfScalar (Some v); reads = r; writes = w }) (Slots.Datum d) s) (sym unset) made
  where
    unset : given d v mid ≡ changed d (with_value v) mid
    unset = ap (λ c. if is_unset c then changed d (with_value v) mid else mid) a.has

    made : Makes old (record { content = OfScalar (Some v); reads = r; writes = w }) (Slots.Datum d) (changed d (with_value v) mid)
    made = record {
      key = d;
      slot_is = refl;
      was_free = a.was_free;
      has = set_here mid d (fresh Single r w) (option_map (with_value v) (at mid d)) a.has ∙ ap (option_map (with_value v)) a.has;
      others = λ e n. set_elsewhere mid d e (option_map (with_value v) (at mid d)) n ∙ a.others e n;
      room = subst (λ n. old.room ≤ n + 1) (sym a.room) (less old.room);
    }

-- the bound stays
pub bound_given : (d : ℕ) (v : Scalar) (s : Store) → (given d v s).bound ≡ s.bound
bound_given d v s = by (is_unset (at s d))
  where
    by : (b : Bool) → (if b then changed d (with_value v) s else s).bound ≡ s.bound
    by true = refl
    by false = refl

nothing_yet : (k : DatumKind) → nothing k ≡ started k None
nothing_yet Single = refl
nothing_yet Keyed = refl

pub made_without : (old mid : Store) (d : ℕ) (o : LocalVariable) → Adds old d (fresh o.shape o.reads o.writes) mid → Makes old (new_datum o None) (Slots.Datum d) mid
made_without old mid d o a = made_plain old mid d (fresh o.shape o.reads o.writes) (new_datum o None) a (ap (λ c. record { content = c; reads = o.reads; writes = o.writes }) (nothing_yet o.shape))

made_by : (k : DatumKind) (old mid : Store) (d r w : ℕ) (v : Scalar) → Adds old d (fresh k r w) mid → Makes old (record { content = started k (Some v); reads = r; writes = w }) (Slots.Datum d) (given d v mid)
made_by Single old mid d r w v a = made_given old mid d r w v a
made_by Keyed old mid d r w v a = subst (λ s. Makes old (record { content = OfArray arrays.empty; reads = r; writes = w }) (Slots.Datum d) s) (sym kept) (made_plain old mid d (fresh Keyed r w) (fresh Keyed r w) a refl)
  where
    kept : given d v mid ≡ mid
    kept = ap (λ c. if is_unset c then changed d (with_value v) mid else mid) a.has

pub made_with : (old mid new : Store) (d : ℕ) (o : LocalVariable) (v : Scalar) → Adds old d (fresh o.shape o.reads o.writes) mid → new ≡ given d v mid → Makes old (new_datum o (Some v)) (Slots.Datum d) new
made_with old mid new d o v a e = subst (λ s. Makes old (new_datum o (Some v)) (Slots.Datum d) s) (sym e) (made_by o.shape old mid d o.reads o.writes v a)
