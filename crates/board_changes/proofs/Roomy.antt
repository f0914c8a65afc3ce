-- Room in an array changes nothing else.
use Rattle.std.proofs.Common.{◌≡◌, ◌⊎◌, ◌∙◌, refl, sym, ap, subst, inl, inr, ℕ, zero, suc, ◌<◌, ◌≤◌, ◌+◌, List, [], ◌∷◌, ◌++◌, length, take, get_or, option_map, Option, Some, None, Bool, true, false, Result, Ok, Err, OnErr, OnOk, arith}
use Rattle.std.specs.Prelude.{slice_index_or, slice_set, if◌then◌else◌}
use Rattle.std.proofs.Math.Nat.{le-max_left, le-max_right}
use Rattle.std.proofs.lemmas.Bool.{cases_Bool}
use Rattle.std.proofs.lemmas.List.{take_more}
use Rattle.dataflow.specs.System.{In}
use Rattle.data_store.specs.Arrays.{Array, room_for, with_room_for}
use Rattle.data_store.specs.Data.{array_in, with_array}
use Rattle.data_store.specs.Stores.{Store, array_at, at, changed, or_none}
use Rattle.data_store.specs.declared.datum.Content.{Content}
use Rattle.data_store.specs.declared.datum.Content.TheVariants.{OfArray, OfScalar}
use Rattle.data_store.specs.declared.datum.Datum.{Datum}
use Rattle.task_code.specs.Compute.{pairs}
use Rattle.values.specs.Maps.{element, rising}
use Rattle.values.specs.declared.key.Key.{Key}
use Rattle.values.specs.declared.key.Key.TheVariants.{Number, Text}
use Rattle.values.specs.declared.map.Element.{Element}
use Rattle.values.specs.declared.value.Scalar.{Scalar}
use Rattle.board_history.specs.Fields as Pure
use Rattle.board_data.specs.Data.{AreRising, is_keyed, roomy}
use Rattle.board_data.specs.View.{cell_view, cells_view}
use Rattle.board_data.proofs.Changes.{set_here}
use Rattle.board_changes.specs.Room.{HasPlaces, OnlyRoom}
use Rattle.board_changes.specs.declared.data_state.DataState.{DataState}

abbrev elements_in : Option Datum → List Element
elements_in c = (array_in (or_none c).content).elements

set_view : (cs : List (Option Datum)) (d : ℕ) (y : Option Datum) → option_map cell_view y ≡ option_map cell_view (slice_index_or cs d None) → cells_view (slice_set cs d y) ≡ cells_view cs
set_view [] zero y e = refl
set_view [] (suc d) y e = refl
set_view (c ∷ cs) zero y e = ap (λ z. z ∷ cells_view cs) e
set_view (c ∷ cs) (suc d) y e = ap (λ zs. option_map cell_view c ∷ zs) (set_view cs d y e)

set_elements : (cs : List (Option Datum)) (d e : ℕ) (y : Option Datum) → elements_in y ≡ elements_in (slice_index_or cs d None) → elements_in (slice_index_or (slice_set cs d y) e None) ≡ elements_in (slice_index_or cs e None)
set_elements [] zero e y h = refl
set_elements [] (suc d) e y h = refl
set_elements (c ∷ cs) zero zero y h = h
set_elements (c ∷ cs) zero (suc e) y h = refl
set_elements (c ∷ cs) (suc d) zero y h = refl
set_elements (c ∷ cs) (suc d) (suc e) y h = set_elements cs d e y h

-- the elements of an array stay, and each kind has as much room as before
room_elements : (k : Key) (n : ℕ) (a : Array) → (with_room_for k n a).elements ≡ a.elements
room_elements (Number z) n a = refl
room_elements (Text bytes) n a = refl

room_there : (k : Key) (n : ℕ) (a : Array) → n ≤ room_for k (with_room_for k n a)
room_there (Number z) n a = le-max_right a.room n
room_there (Text bytes) n a = le-max_right a.text_room n

room_stays : (k l : Key) (n : ℕ) (a : Array) → room_for l a ≤ room_for l (with_room_for k n a)
room_stays (Number y) (Number z) n a = le-max_left a.room n
room_stays (Number y) (Text z) n a = omega arith
room_stays (Text y) (Number z) n a = omega arith
room_stays (Text y) (Text z) n a = le-max_left a.text_room n

same_elements : (k : Key) (n : ℕ) (c : Option Datum) → elements_in (option_map (with_array (with_room_for k n)) c) ≡ elements_in c
same_elements k n None = refl
same_elements k n (Some x) = room_elements k n (array_in x.content)

same_view : (k : Key) (n : ℕ) (c : Option Datum) → is_keyed c ≡ true → option_map cell_view (option_map (with_array (with_room_for k n)) c) ≡ option_map cell_view c
same_view k n None y = refl
same_view k n (Some x) y = by x.content y
  where
    by : (o : Content) → is_keyed (Some (record { content = o; reads = x.reads; writes = x.writes })) ≡ true → Some (cell_view (with_array (with_room_for k n) (record { content = o; reads = x.reads; writes = x.writes }))) ≡ Some (cell_view (record { content = o; reads = x.reads; writes = x.writes }))
    by (OfScalar v) h = absurd cc
    by (OfArray a) h = ap (λ (es : List Element). Some (record { reads = x.reads; writes = x.writes; content = Pure.Mapping (pairs es) })) (room_elements k n a)

pub roomy_cells : (d : Option ℕ) (k : Key) (n : ℕ) (s : Store) → cells_view (roomy d k n s).cells ≡ cells_view s.cells
roomy_cells None k n s = refl
roomy_cells (Some d) k n s = elim (cases_Bool (is_keyed (at s d))) [
  | inl y ↦ ap (λ (b : Bool). cells_view (if b then changed d (with_array (with_room_for k n)) s else s).cells) y ∙ set_view s.cells d (option_map (with_array (with_room_for k n)) (at s d)) (same_view k n (at s d) y)
  | inr y ↦ ap (λ (b : Bool). cells_view (if b then changed d (with_array (with_room_for k n)) s else s).cells) y
]

pub roomy_rises : (d : Option ℕ) (k : Key) (n : ℕ) (s : Store) → AreRising s → AreRising (roomy d k n s)
roomy_rises None k n s r = r
roomy_rises (Some d) k n s r = by (is_keyed (at s d))
  where
    by : (b : Bool) → AreRising (if b then changed d (with_array (with_room_for k n)) s else s)
    by true e = ap rising (set_elements s.cells d e (option_map (with_array (with_room_for k n)) (at s d)) (same_elements k n (at s d))) ∙ r e
    by false e = r e

-- the array that has more room
module _ (d : ℕ) (k : Key) (n : ℕ) (s : Store) where
  there : (c : Option Datum) → is_keyed c ≡ true → (x : Datum) × (c ≡ Some x)
  there None h = absurd cc
  there (Some x) h = (x, refl)

  shape : (b : Bool) → is_keyed (at s d) ≡ b → is_keyed (at (roomy (Some d) k n s) d) ≡ true → is_keyed (at s d) ≡ true
  shape true y h = y
  shape false y h = ap (λ (b : Bool). is_keyed (at (if b then changed d (with_array (with_room_for k n)) s else s) d)) (sym y) ∙ h

  roomy_array : is_keyed (at s d) ≡ true → array_at (roomy (Some d) k n s) d ≡ with_room_for k n (array_at s d)
  roomy_array y =
      let x = there (at s d) y in
      ap (λ (b : Bool). array_at (if b then changed d (with_array (with_room_for k n)) s else s) d) y
      ∙ ap (λ (c : Option Datum). array_in (or_none c).content) (set_here s d x.0 (option_map (with_array (with_room_for k n)) (at s d)) x.1 ∙ ap (option_map (with_array (with_room_for k n))) x.1)
      ∙ ap (λ (c : Option Datum). with_room_for k n (array_in (or_none c).content)) (sym x.1)

-- room for the elements up to one, and the next
pub places_next : (target : Option ℕ) (n : ℕ) (es : List Element) (i : ℕ) (one : Element) (s t : Store) → i < length es → one ≡ get_or es i one → t ≡ roomy target one.key n s →
    ((d : ℕ) → target ≡ Some d → is_keyed (at s d) ≡ true → (e : Element) → In e (take i es) → n ≤ room_for e.key (array_at s d)) →
    (d : ℕ) → target ≡ Some d → is_keyed (at t d) ≡ true → (e : Element) → In e (take (i + 1) es) → n ≤ room_for e.key (array_at t d)
places_next target n es i one s t within is made before d to keyed e m =
    subst (λ (a : Array). n ≤ room_for e.key a) (sym array_now) (by (last_of e (take i es) (subst (In e) (take_more es i one within ∙ ap (λ (x : Element). take i es ++ x ∷ []) (sym is)) m)))
  where
    grown : t ≡ roomy (Some d) one.key n s
    grown = made ∙ ap (λ (o : Option ℕ). roomy o one.key n s) to

    was : is_keyed (at s d) ≡ true
    was = shape d one.key n s (is_keyed (at s d)) refl (ap (λ (u : Store). is_keyed (at u d)) (sym grown) ∙ keyed)

    array_now : array_at t d ≡ with_room_for one.key n (array_at s d)
    array_now = ap (λ (u : Store). array_at u d) grown ∙ roomy_array d one.key n s was

    last_of : (e : Element) (xs : List Element) → In e (xs ++ one ∷ []) → In e xs ⊎ (e ≡ one)
    last_of e [] m = elim m [ inl q ↦ inr q | inr z ↦ absurd z ]
    last_of e (x ∷ xs) m = elim m [ inl q ↦ inl (inl q) | inr z ↦ elim (last_of e xs z) [ inl w ↦ inl (inr w) | inr q ↦ inr q ] ]

    most : (a b c : ℕ) → a ≤ b → b ≤ c → a ≤ c
    most a b c h g = omega (arith, h, g)

    by : In e (take i es) ⊎ (e ≡ one) → n ≤ room_for e.key (with_room_for one.key n (array_at s d))
    by (inl old) = most n (room_for e.key (array_at s d)) (room_for e.key (with_room_for one.key n (array_at s d))) (before d to was e old) (room_stays one.key e.key n (array_at s d))
    by (inr new) = subst (λ (x : Element). n ≤ room_for x.key (with_room_for one.key n (array_at s d))) (sym new) (room_there one.key n (array_at s d))

-- room for one element
pub one_place : {T E : Type 0} (r : Result T E) (target : Option ℕ) (k : Key) (v : Scalar) (s t : Store) → OnOk r (t ≡ roomy target k 1 s) → OnOk r (HasPlaces target (element k v ∷ []) t)
one_place (Ok x) target k v s t made = λ d to keyed e m. places_next target 1 (element k v ∷ []) 0 (element k v) s t (omega arith) refl made (λ d to keyed e m. absurd m) d to keyed e m
one_place (Err x) target k v s t made = tt

-- one array has more room
only_places : (d : Option ℕ) (k : Key) (n : ℕ) (old : DataState) (t : Store) → t ≡ roomy d k n old.store → OnlyRoom old (record { instances = old.instances; store = t; closed = old.closed })
only_places d k n old t e = record {
  frames = refl;
  cells = ap (λ (u : Store). cells_view u.cells) e ∙ roomy_cells d k n old.store;
  rising = λ r. subst AreRising (sym e) (roomy_rises d k n old.store r);
}

only_same : (old : DataState) (t : Store) → t ≡ old.store → OnlyRoom old (record { instances = old.instances; store = t; closed = old.closed })
only_same old t e = record {
  frames = refl;
  cells = ap (λ (u : Store). cells_view u.cells) e;
  rising = λ r. subst AreRising (sym e) r;
}

pub room_only : {T E : Type 0} (r : Result T E) (d : Option ℕ) (k : Key) (n : ℕ) (old : DataState) (t : Store) → OnOk r (t ≡ roomy d k n old.store) → OnErr r (t ≡ old.store) → OnlyRoom old (record { instances = old.instances; store = t; closed = old.closed })
room_only (Ok x) d k n old t ok err = only_places d k n old t ok
room_only (Err x) d k n old t ok err = only_same old t err
