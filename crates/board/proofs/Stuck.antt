-- A statement is blocked by the fields just where it is in the state.
use Rattle.std.proofs.Common.{◌≡◌, ◌↔◌, inl, inr, ℕ, Bool, true, false, List, [], ◌∷◌, refl, sym, ap, ◌∙◌, subst, Option, None, Some, nat_eq}
use Rattle.std.specs.Prelude.{if◌then◌else◌}
use Rattle.std.specs.List.{list_all}
use Rattle.std.proofs.lemmas.Bool.{not-true, and_parts}
use Rattle.dataflow.specs.System.{ClosedArray, In, Input, StoredScalar}
use Rattle.dataflow.specs.Machine.{Event, IsKnown}
use Rattle.board_history.specs.Elements.{code_tests}
use Rattle.board_history.specs.Fields as Fields
use Rattle.board_history.specs.Fields.{Counted, DatumOf, Frame, Holding, Layout, LiteralOf, Mapping, Slot, Unset, Want, slot_at}
use Rattle.board_history.specs.Needs.{cell_value, is_shut, missed, value_in}
use Rattle.board_history.specs.Stands.{CellStands, ContentStands, Stands, array_wanted, scalar_wanted}
use Rattle.board_history.proofs.Counts.{closed_counts, counts_closed}
use Rattle.board_history.proofs.Elements.{code_told}
use Rattle.board_history.proofs.EndedNames.{Resolved, to_datum, to_literal}
use Rattle.board_history.proofs.EndedWants.{scalar_place}
use Rattle.board_history.proofs.Tests.{none_some, some_same, yes_no}
use Rattle.task_code.proofs.Equal.{every_in, in_every, nat_sound}
use Rattle.task_code.specs.Code.{At, AtKey, Closed, Code, Header, Name, Need, Stored, Variable, entry, is_array_name}
use Rattle.task_code.specs.Places.{Datum, Place, Step, place_at}
use Rattle.task_code.specs.Runs.{FirstUnknown, IsHeaderKnown}
use Rattle.task_code.specs.Shape.{fits_kinds, is_plain}
use Rattle.task_code.specs.System.{code_system, inputs_at, scalar_input, whole_input}
use Rattle.task_code.specs.Whole.{IsCode}
use Rattle.values.specs.declared.key.Key.{Key}
use Rattle.board.specs.Stuck.{misses_none}

pub cons_nil : {A X : Type 0} {y : X} {ys : List X} → ◌≡◌ {A = List X} (y ∷ ys) [] → A
cons_nil h = absurd (cc)

none_sound : (ws : List (Want ℕ)) → misses_none ws ≡ true → ws ≡ []
none_sound [] h = refl
none_sound (w ∷ ws) h = absurd (cc (h))

module _ (C : Code) (I : IsCode C) (L : Layout) (es : List Event) (F : Fields.Fields) (x : Stands C L es F) where
  -- a datum by its key
  cell : (d : ℕ) (a : Place) → In (d, a) x.names → (c : Counted) × (slot_at F.cells d ≡ Some c) × CellStands C x.state a c
  cell d a h = x.data_stand.there d a h

  abbrev AllKnown : List (Input Place Key) → Type 0
  AllKnown is = (i : Input Place Key) → In i is → IsKnown (code_system C) x.state i

  one_known : (i : Input Place Key) → IsKnown (code_system C) x.state i → AllKnown (i ∷ [])
  one_known i h j m = elim m [ inl p ↦ subst (λ (y : Input Place Key). IsKnown (code_system C) x.state y) (sym p) h | inr g ↦ absurd g ]

  scalar_by : (d : ℕ) (q : List Step) (v : Variable) → In (d, Datum q v) x.names → v.array ≡ false → (scalar_wanted (cell_value (slot_at F.cells d)) d ≡ []) ↔ AllKnown (StoredScalar (Datum q v) ∷ [])
  scalar_by d q v h na = (let c = cell d (Datum q v) h in by c.0.content v.array na c.2.content (ap cell_value c.1))
    where
      by : (c : Fields.Content) (b : Bool) → b ≡ false → ContentStands C x.state (Datum q v) b c → cell_value (slot_at F.cells d) ≡ value_in c → (scalar_wanted (cell_value (slot_at F.cells d)) d ≡ []) ↔ AllKnown (StoredScalar (Datum q v) ∷ [])
      by Unset false e st g = (λ w. cons_nil (ap (λ o. scalar_wanted o d) (sym g) ∙ w), λ k. let y = k (StoredScalar (Datum q v)) (inl refl) in absurd (st y.0 y.1))
      by Unset true e st g = absurd st
      by (Holding u) false e st g = (λ w. one_known (StoredScalar (Datum q v)) (u, st), λ k. ap (λ o. scalar_wanted o d) g)
      by (Holding u) true e st g = absurd st
      by (Mapping ys) false e st g = absurd st
      by (Mapping ys) true e st g = yes_no refl e

  zero_is : (n : ℕ) → nat_eq n 0 ≡ true → n ≡ 0
  zero_is n h = nat_sound n 0 h

  pub array_by : (d : ℕ) (q : List Step) (v : Variable) → In (d, Datum q v) x.names → (array_wanted (is_shut (slot_at F.cells d)) d ≡ []) ↔ AllKnown (ClosedArray (Datum q v) ∷ [])
  array_by d q v h = (
    λ w. one_known (ClosedArray (Datum q v)) (counts_closed (code_system C) code_tests (code_told C) x.state (Datum q v) there (sym c.2.writes ∙ zero_is c.0.writes (shut (is_shut (slot_at F.cells d)) (ap is_shut c.1) w))),
    λ k. ap (λ b. array_wanted b d) (ap is_shut c.1 ∙ subst (λ n. nat_eq n 0 ≡ true) (sym (c.2.writes ∙ closed_counts (code_system C) code_tests (code_told C) x.state (Datum q v) (k (ClosedArray (Datum q v)) (inl refl)))) refl),
  )
    where
      c : (c : Counted) × (slot_at F.cells d ≡ Some c) × CellStands C x.state (Datum q v) c
      c = cell d (Datum q v) h

      there : In (Datum q v) x.state.places
      there = x.data_stand.naming.there d (Datum q v) h

      shut : (b : Bool) → b ≡ nat_eq c.0.writes 0 → array_wanted b d ≡ [] → nat_eq c.0.writes 0 ≡ true
      shut true e w = sym e
      shut false e w = cons_nil w

  -- what a need misses by its names
  module _ (e : ℕ) (p : List Step) (f : Name → Slot) (res : (r : Name) → In r (entry C e).reads → Resolved C x.names (f r) (place_at C p r)) where
    abbrev Told : Need → Type 0
    Told m = (missed C F.cells f m ≡ []) ↔ AllKnown (inputs_at C p m)

    none_asked : AllKnown []
    none_asked i h = absurd h

    stored_told : (r : Name) → is_array_name r ≡ false → Resolved C x.names (f r) (place_at C p r) → Told (Stored r)
    stored_told r na (to_datum d q v px pa i) =
        subst (λ (y : Slot). (missed C F.cells (λ z. y) (Stored r) ≡ []) ↔ AllKnown (inputs_at C p (Stored r))) (sym px)
        (subst (λ (a : Place). (scalar_wanted (cell_value (slot_at F.cells d)) d ≡ []) ↔ AllKnown (scalar_input a)) (sym pa) (scalar_by d q v i (scalar_place C p r q v false na pa)))
    stored_told r na (to_literal m k v px pa l) = (
      λ w. subst (λ (a : Place). AllKnown (scalar_input a)) (sym pa) none_asked,
      λ k. ap (λ (y : Slot). missed C F.cells (λ z. y) (Stored r)) px,
    )

    closed_told_by : (r : Name) → Resolved C x.names (f r) (place_at C p r) → Told (Closed r)
    closed_told_by r (to_datum d q v px pa i) =
        subst (λ (y : Slot). (missed C F.cells (λ z. y) (Closed r) ≡ []) ↔ AllKnown (inputs_at C p (Closed r))) (sym px)
        (subst (λ (a : Place). (array_wanted (is_shut (slot_at F.cells d)) d ≡ []) ↔ AllKnown (whole_input a)) (sym pa) (array_by d q v i))
    closed_told_by r (to_literal m k v px pa l) = (
      λ w. subst (λ (a : Place). AllKnown (whole_input a)) (sym pa) none_asked,
      λ k. ap (λ (y : Slot). missed C F.cells (λ z. y) (Closed r)) px,
    )

    pub need_told : (m : Need) → is_plain m ≡ true → In m (entry C e).needs → Told m
    need_told (Stored r) pl i = stored_told r (not-true (is_array_name r) (kinds (Stored r) i)) (res r (I.needs e (Stored r) r i (inl refl)))
      where
        kinds : (m : Need) → In m (entry C e).needs → fits_kinds m ≡ true
        kinds m i = every_in fits_kinds (entry C e).needs (and_parts (list_all fits_kinds (entry C e).needs) _ (I.shape e)).0 m i
    need_told (Closed r) pl i = closed_told_by r (res r (I.needs e (Closed r) r i (inl refl)))
    need_told (At a r) pl i = absurd (cc (pl))
    need_told (AtKey a k) pl i = absurd (cc (pl))

    -- what a header misses
    pub needs_known : (ns : List Need) → ((m : Need) → In m ns → (is_plain m ≡ true) × In m (entry C e).needs)
        → (list_all (λ n. misses_none (missed C F.cells f n)) ns ≡ true) ↔ ((n : Need) (i : Input Place Key) → In n ns → In i (inputs_at C p n) → IsKnown (code_system C) x.state i)
    needs_known ns inn = (
      λ h n i a b. let t = need_told n (inn n a).0 (inn n a).1 in t.0 (none_sound (missed C F.cells f n) (every_in (λ m. misses_none (missed C F.cells f m)) ns h n a)) i b,
      λ k. in_every (λ m. misses_none (missed C F.cells f m)) ns (λ n a. let t = need_told n (inn n a).0 (inn n a).1 in ap misses_none (t.1 (λ i b. k n i a b))),
    )

    -- and the first header that misses something
    abbrev pub first_in : List Header → Option ℕ
    first_in [] = None
    first_in (h ∷ hs) = if list_all (λ n. misses_none (missed C F.cells f n)) h.needs then first_in hs else Some h.at

    pub first_told : (hs : List Header) → ((h : Header) → In h hs → (m : Need) → In m h.needs → (is_plain m ≡ true) × In m (entry C e).needs)
        → (at : ℕ) → (first_in hs ≡ Some at) ↔ FirstUnknown C (IsKnown (code_system C) x.state) p hs at
    first_told [] inn at = (λ h. none_some h, λ h. absurd h)
    first_told (h ∷ hs) inn at = by (list_all (λ n. misses_none (missed C F.cells f n)) h.needs) refl (needs_known h.needs (inn h (inl refl))) (first_told hs (λ g i. inn g (inr i)) at)
      where
        by : (b : Bool) → list_all (λ n. misses_none (missed C F.cells f n)) h.needs ≡ b → (list_all (λ n. misses_none (missed C F.cells f n)) h.needs ≡ true) ↔ IsHeaderKnown C (IsKnown (code_system C) x.state) p h
            → (first_in hs ≡ Some at) ↔ FirstUnknown C (IsKnown (code_system C) x.state) p hs at
            → ((if b then first_in hs else Some h.at) ≡ Some at) ↔ FirstUnknown C (IsKnown (code_system C) x.state) p (h ∷ hs) at
        by true e k r = (λ g. inr (k.0 e, r.0 g), λ g. elim g [ inl u ↦ absurd (u.0 (k.0 e)) | inr u ↦ r.1 u.1 ])
        by false e k r = (λ g. inl ((λ u. yes_no (k.1 u) e), sym (some_same g)), λ g. elim g [ inl u ↦ ap Some (sym u.1) | inr u ↦ yes_no (k.1 u.0) e ])
