-- The elements of each array stay listed by rising key.
use Rattle.std.proofs.Common.{◌≡◌, ◌⊎◌, ◌∙◌, refl, sym, ap, subst, inl, inr, ℕ, suc, ◌<◌, ◌≤◌, ◌+◌, ◌*◌, ◌==◌, List, [], ◌∷◌, length, length-append, option_map, Option, Some, None, Bool, true, false, arith}
use Rattle.std.specs.Prelude.{if◌then◌else◌, slice_set}
use Rattle.std.proofs.lemmas.Bool.{cases_eq}
use Rattle.data_store.specs.Arrays.{with_element}
use Rattle.data_store.specs.Data.{array_in, is_spent, kept, with_array, with_holds, with_value, without_read, without_write}
use Rattle.data_store.specs.Stores.{IsArrayAt, Store, array_at, at, changed, datum, given_up, kept_after, or_none}
use Rattle.data_store.specs.declared.datum.Datum.{Datum}
use Rattle.values.specs.declared.datum_kind.DatumKind.{DatumKind}
use Rattle.values.specs.declared.datum_kind.DatumKind.TheVariants.{Keyed, Single}
use Rattle.board_program.specs.declared.program.Hold.{Hold}
use Rattle.board_program.specs.declared.program.LocalVariable.{LocalVariable}
use Rattle.board_program.specs.declared.lexical_address.LexicalAddress.{LexicalAddress}
use Rattle.board_history.specs.Fields.{Slot as ASlot}
use Rattle.board_instances.specs.Names.{datum_of}
use Rattle.board_instances.specs.declared.instance.Slot.{Slot}
use Rattle.values.specs.Maps.{found, rising}
use Rattle.values.specs.declared.key.Key.{Key}
use Rattle.values.specs.declared.map.Element.{Element}
use Rattle.values.specs.declared.value.Scalar.{Scalar}
use Rattle.values.proofs.Maps.{rising-inserted}
use Rattle.board_data.specs.Data.{AreRising, closes, fits, given, held, is_unset}
use Rattle.board_data.specs.Holds.{closing, held_at}
use Rattle.board_data.specs.Made.{Makes, new_datum, started}
use Rattle.board_data.proofs.Changes.{set_elsewhere, set_here, set_nowhere, with_elements}
use Rattle.board_data.proofs.Given.{call_at, give_step}
use Rattle.board_data.proofs.Closed.{all_closing, step}
use Rattle.board_data.proofs.Held.{hold_step}
use Rattle.board_data.proofs.Steps.{one_by_one}

abbrev RisesIn : Option Datum → Type 0
RisesIn c = rising (array_in (or_none c).content).elements ≡ true

-- one datum has changed, and its elements rise as before
keeps : (s : Store) (k : ℕ) (g : Option Datum → Option Datum) → g None ≡ None → ((x : Datum) → RisesIn (Some x) → RisesIn (g (Some x))) → AreRising s → AreRising (record s { cells = slice_set s.cells k (g (at s k)) })
keeps s k g n h r d = elim (cases_eq d k) [
  | inl q ↦ subst (λ j. RisesIn (at new j)) (sym q) (here (at s k) refl)
  | inr m ↦ subst RisesIn (sym (set_elsewhere s k d (g (at s k)) m)) (r d)
]
  where
    new : Store
    new = record s { cells = slice_set s.cells k (g (at s k)) }

    here : (c : Option Datum) → at s k ≡ c → RisesIn (at new k)
    here None e = subst RisesIn (sym (ap (λ z. at (record s { cells = slice_set s.cells k z }) k) (ap g e ∙ n) ∙ set_nowhere s.cells k e)) refl
    here (Some x) e = subst RisesIn (sym (set_here s k x (g (at s k)) e ∙ ap g e)) (h x (subst RisesIn e (r k)))

kept_rises : (x : Datum) → RisesIn (Some x) → RisesIn (kept x)
kept_rises x r = by (is_spent x)
  where
    by : (b : Bool) → RisesIn (if b then None else Some x)
    by true = refl
    by false = r

given_rises : (d : ℕ) (v : Scalar) (s : Store) → AreRising s → AreRising (given d v s)
given_rises d v s r = by (is_unset (at s d))
  where
    by : (b : Bool) → AreRising (if b then changed d (with_value v) s else s)
    by true = keeps s d (option_map (with_value v)) refl (λ x h. refl) r
    by false = r

held_rises : (d k w : ℕ) (s : Store) → AreRising s → AreRising (held d k w s)
held_rises d k w s r = by (fits (at s d) k w)
  where
    by : (b : Bool) → AreRising (if b then changed d (with_holds k w) s else s)
    by true = keeps s d (option_map (with_holds k w)) refl (λ x h. h) r
    by false = r

-- a value is put
pub put_rises : (d : ℕ) (v : Scalar) (s t : Store) → t ≡ given d v s → AreRising s → AreRising t
put_rises d v s t e r = subst AreRising (sym e) (given_rises d v s r)

-- an element comes in
pub insert_rises : (d : ℕ) (k : Key) (v : Scalar) (s t : Store) →
    (t ≡ s) ⊎ (IsArrayAt s d × (0 < (datum s d).writes) × (found k (array_at s d).elements ≡ None) × (t ≡ changed d (with_array (with_element k v)) s)) → AreRising s → AreRising t
insert_rises d k v s t c r = elim c [
  | inl e ↦ subst AreRising (sym e) r
  | inr h ↦ subst AreRising (sym h.3) (keeps s d (option_map (with_array (with_element k v))) refl (λ x i. subst (λ (es : List Element). rising es ≡ true) (sym (with_elements k v (array_in x.content))) (rising-inserted k v (array_in x.content).elements i)) r)
]

-- a datum is made, or none
started_rises : (h : DatumKind) (v : Option Scalar) → rising (array_in (started h v)).elements ≡ true
started_rises Single v = refl
started_rises Keyed v = refl

pub made_rises : (s t : Store) (o : LocalVariable) (v : Option Scalar) (slot : Slot) → (o.reads + o.writes ≡ 0 → t ≡ s) → (0 < o.reads + o.writes → Makes s (new_datum o v) slot t) → AreRising s → AreRising t
made_rises s t o v slot same made r = elim (cases_eq (o.reads + o.writes) 0) [
  | inl none ↦ subst AreRising (sym (same none)) r
  | inr some ↦ by (made (omega (arith, some)))
]
  where
    by : Makes s (new_datum o v) slot t → AreRising t
    by m d = elim (cases_eq d m.key) [
      | inl q ↦ subst (λ j. RisesIn (at t j)) (sym q) (subst RisesIn (sym m.has) (started_rises o.shape v))
      | inr n ↦ subst RisesIn (sym (m.others d n)) (r d)
    ]

-- holds are added
pub holds_rise : (f : LexicalAddress → ASlot) (n : ℕ) (hs : List Hold) (s t : Store) → t ≡ one_by_one (hold_step f (λ h. n * h.reads) (λ h. n * h.writes)) hs s → AreRising s → AreRising t
holds_rise f n hs s t e r = subst AreRising (sym e) (all hs s r)
  where
    one : (p : Option ℕ) (k w : ℕ) (s : Store) → AreRising s → AreRising (held_at p k w s)
    one None k w s r = r
    one (Some d) k w s r = held_rises d k w s r

    all : (hs : List Hold) (s : Store) → AreRising s → AreRising (one_by_one (hold_step f (λ h. n * h.reads) (λ h. n * h.writes)) hs s)
    all [] s r = r
    all (h ∷ hs) s r = all hs (hold_step f (λ h. n * h.reads) (λ h. n * h.writes) h s) (one (datum_of (f h.spot)) (n * h.reads) (n * h.writes) s r)

-- holds are given up
module _ (count : Datum → ℕ) (take : Datum → Datum) (same : (x : Datum) → RisesIn (Some x) → RisesIn (Some (take x))) (f : LexicalAddress → ASlot) where
  given_up_rises : (d : ℕ) (s : Store) → AreRising s → AreRising (given_up d take s)
  given_up_rises d s r = keeps s d (kept_after take) refl (λ x h. kept_rises (take x) (same x h)) r

  step_rises : (g : ASlot) (s : Store) → AreRising s → AreRising (call_at count take (datum_of g) s)
  step_rises g s r = by (datum_of g)
    where
      by : (p : Option ℕ) → AreRising (call_at count take p s)
      by None = r
      by (Some d) = test (count (datum s d) == 0)
        where
          test : (b : Bool) → AreRising (if b then s else given_up d take s)
          test true = r
          test false = given_up_rises d s r

  pub steps_rise : (ps : List LexicalAddress) (s : Store) → AreRising s → AreRising (one_by_one (give_step count take f) ps s)
  steps_rise [] s r = r
  steps_rise (p ∷ ps) s r = steps_rise ps (give_step count take f p s) (step_rises (f p) s r)

pub reads_rise : (f : LexicalAddress → ASlot) (ps : List LexicalAddress) (s t : Store) → t ≡ one_by_one (give_step (λ (y : Datum). y.reads) without_read f) ps s → AreRising s → AreRising t
reads_rise f ps s t e r = subst AreRising (sym e) (steps_rise (λ (y : Datum). y.reads) without_read (λ x h. h) f ps s r)

pub writes_rise : (f : LexicalAddress → ASlot) (ps : List LexicalAddress) (s t : Store) → t ≡ one_by_one (give_step (λ (y : Datum). y.writes) without_write f) ps s → AreRising s → AreRising t
writes_rise f ps s t e r = subst AreRising (sym e) (steps_rise (λ (y : Datum). y.writes) without_write (λ x h. h) f ps s r)

-- no more arrays are closed than spots are given up
pub few_closing : (f : LexicalAddress → ASlot) (ps : List LexicalAddress) (s : Store) → length (all_closing f ps s) ≤ length ps
few_closing f [] s = omega arith
few_closing f (p ∷ ps) s = subst (λ n. n ≤ suc (length ps)) (sym (length-append (closing (datum_of (f p)) s) (all_closing f ps (step f p s)))) (more (length (closing (datum_of (f p)) s)) _ _ (one (datum_of (f p))) (few_closing f ps (step f p s)))
  where
    one : (d : Option ℕ) → length (closing d s) ≤ 1
    one None = omega arith
    one (Some d) = by (closes (at s d))
      where
        by : (b : Bool) → length (if b then d ∷ [] else []) ≤ 1
        by true = omega arith
        by false = omega arith

    more : (a b n : ℕ) → a ≤ 1 → b ≤ n → a + b ≤ suc n
    more a b n h g = omega (arith, h, g)
