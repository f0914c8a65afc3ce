-- Data by their keys.
use Rattle.std.proofs.Common.{◌≡◌, ◌∙◌, refl, sym, ap, subst, inl, inr, ℕ, zero, suc, List, [], ◌∷◌, option_map, Option, Some, None, true, ◌==◌}
use Rattle.std.specs.Prelude.{slice_index_or, if◌then◌else◌}
use Rattle.data_store.specs.Data.{array_in, value_of}
use Rattle.data_store.specs.Stores.{array_at, at, or_none, Store, value_at}
use Rattle.data_store.specs.declared.datum.Content.{Content}
use Rattle.data_store.specs.declared.datum.Content.TheVariants.{OfArray, OfScalar}
use Rattle.data_store.specs.declared.datum.Datum.{Datum}
use Rattle.board_history.specs.Fields.{slot_at}
use Rattle.board_history.specs.Needs as needs
use Rattle.board_history.specs.Needs.{cell_element, cell_value, is_shut, value_in, elements_in}
use Rattle.task_code.specs.Compute.{pairs}
use Rattle.values.specs.Keys.{same_key}
use Rattle.std.proofs.lemmas.Bool.{cases_Bool}
use Rattle.values.proofs.Keys.{same_key-refl, same_key-eq, same_key-other}
use Rattle.values.specs.Maps as maps
use Rattle.values.specs.declared.key.Key.{Key}
use Rattle.values.specs.declared.map.Element.{Element}
use Rattle.board_data.specs.Data.{is_closed_at}
use Rattle.board_data.specs.View.{cell_view, cells_view, content_view}

pub cell_there : (cs : List (Option Datum)) (d : ℕ) → slot_at (cells_view cs) d ≡ option_map cell_view (slice_index_or cs d None)
cell_there [] d = refl
cell_there (c ∷ cs) zero = refl
cell_there (c ∷ cs) (suc d) = cell_there cs d

-- the value of a scalar
value_same : (x : Content) → value_in (content_view x) ≡ value_of x
value_same (OfScalar None) = refl
value_same (OfScalar (Some v)) = refl
value_same (OfArray a) = refl

value_by : (c : Option Datum) → cell_value (option_map cell_view c) ≡ value_of (or_none c).content
value_by None = refl
value_by (Some x) = value_same x.content

pub value_there : (s : Store) (d : ℕ) → cell_value (slot_at (cells_view s.cells) d) ≡ value_at s d
value_there s d = ap cell_value (cell_there s.cells d) ∙ value_by (at s d)

-- nobody may write it
shut_by : (c : Option Datum) → is_shut (option_map cell_view c) ≡ ((or_none c).writes == 0)
shut_by None = refl
shut_by (Some x) = refl

pub shut_there : (s : Store) (d : ℕ) → is_shut (slot_at (cells_view s.cells) d) ≡ is_closed_at s d
shut_there s d = ap is_shut (cell_there s.cells d) ∙ shut_by (at s d)

-- the element under a key
same_key_flips : (x y : Key) → same_key x y ≡ same_key y x
same_key_flips x y = elim (cases_Bool (same_key x y)) [
  | inl same ↦ same ∙ sym (subst (λ z. same_key z x ≡ true) (same_key-eq x y same) (same_key-refl x))
  | inr other ↦ other ∙ sym (same_key-other x y other)
]

found_same : (k : Key) (es : List Element) → needs.found k (pairs es) ≡ maps.found k es
found_same k [] = refl
found_same k (e ∷ es) = ap (λ r. if same_key k e.key then Some e.value else r) (found_same k es) ∙ ap (λ b. if b then Some e.value else maps.found k es) (same_key_flips k e.key)

element_same : (k : Key) (x : Content) → needs.found k (elements_in (content_view x)) ≡ maps.found k (array_in x).elements
element_same k (OfScalar None) = refl
element_same k (OfScalar (Some v)) = refl
element_same k (OfArray a) = found_same k a.elements

element_by : (k : Key) (c : Option Datum) → cell_element k (option_map cell_view c) ≡ maps.found k (array_in (or_none c).content).elements
element_by k None = refl
element_by k (Some x) = element_same k x.content

pub element_there : (s : Store) (d : ℕ) (k : Key) → cell_element k (slot_at (cells_view s.cells) d) ≡ maps.found k (array_at s d).elements
element_there s d k = ap (cell_element k) (cell_there s.cells d) ∙ element_by k (at s d)
