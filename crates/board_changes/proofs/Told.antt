-- What is stored becomes known.
use Rattle.std.proofs.Common.{◌≡◌, ◌∙◌, refl, sym, ap, subst, inl, inr, ℕ, Bool, true, false, List, [], ◌∷◌, map, Option, Some, None, option_map}
use Rattle.std.specs.Prelude.{if◌then◌else◌, nat_eq, ◌||◌}
use Rattle.std.proofs.lemmas.Bool.{cases_Bool, or_left, or_right}
use Rattle.dataflow.specs.System.{In}
use Rattle.dataflow.proofs.Lists.{in_map, in_unmap}
use Rattle.std.specs.Prelude.{IsSomeAnd, ◌-◌}
use Rattle.data_store.specs.Data.{IsArray, is_spent, kept}
use Rattle.data_store.specs.Stores.{IsArrayAt, Store, at}
use Rattle.data_store.specs.declared.datum.Content.{Content}
use Rattle.data_store.specs.declared.datum.Content.TheVariants.{OfArray, OfScalar}
use Rattle.data_store.specs.declared.datum.Datum.{Datum}
use Rattle.board_history.proofs.Next.{nat_same, nat_sound}
use Rattle.board_history.specs.Ending.{ContentAfter}
use Rattle.board_history.specs.Fields.{AnElement, Counted, Want, Whole, slot_at}
use Rattle.board_history.specs.Fields as Pure
use Rattle.board_history.specs.Needs.{cell_known, cell_hashed, elements_in, has_hash, is_array_content, is_known, is_shut}
use Rattle.task_code.specs.Compute.{Elements, pairs}
use Rattle.task_code.specs.Effects.{only}
use Rattle.values.specs.Keys.{hash_of}
use Rattle.values.specs.Maps.{element}
use Rattle.values.specs.declared.key.Key.{Key}
use Rattle.values.specs.declared.map.Element.{Element}
use Rattle.values.specs.declared.value.Scalar.{Scalar}
use Rattle.board_program.specs.Tables.{is_place}
use Rattle.board_data.proofs.Cells.{cell_there}
use Rattle.board_data.proofs.Given.{kept_gone, kept_there}
use Rattle.board_data.specs.Data.{is_keyed}
use Rattle.board_data.specs.Holds.{fewer}
use Rattle.board_data.specs.Stored.{IsScalarTarget, StoresIn, Takes}
use Rattle.board_data.specs.View.{cell_view, cells_view, content_view}
use Rattle.board_changes.proofs.After.{seen_there}
use Rattle.board_changes.proofs.Known.{array_seen, kept_known}
use Rattle.board_changes.specs.World.{CanStore, elements_of, target_of, told_of, values_of, whole_of}
use Rattle.board_changes.specs.declared.data_state.Change.{Change}
use Rattle.board_changes.specs.declared.data_state.Change.TheVariants as Changes

-- where an element is there, one of its hash is
marked_there : (k : Key) (v : Scalar) (xs : Elements) → In (k, v) xs → has_hash (hash_of k) xs ≡ true
marked_there k v [] i = absurd i
marked_there k v (x ∷ xs) i = elim i [
  | inl e ↦ or_left (nat_eq (hash_of k) (hash_of x.0)) (has_hash (hash_of k) xs) (subst (λ (y : Key × Scalar). nat_eq (hash_of k) (hash_of y.0) ≡ true) e (nat_same (hash_of k)))
  | inr r ↦ or_right (nat_eq (hash_of k) (hash_of x.0)) (has_hash (hash_of k) xs) (marked_there k v xs r)
]

-- a scalar that has been given a value is known
scalar_known : (a b : Pure.Content) (v : Key × Scalar) → is_array_content a ≡ false → ContentAfter a (v ∷ []) b → (r w : ℕ) → cell_known (Some (record { reads = r; writes = w; content = b })) ≡ true
scalar_known Pure.Unset b v n h r w = ap (λ (c : Pure.Content). cell_known (Some (record { reads = r; writes = w; content = c }))) h
scalar_known (Pure.Holding y) b v n h r w = ap (λ (c : Pure.Content). cell_known (Some (record { reads = r; writes = w; content = c }))) h
scalar_known (Pure.Mapping ys) b v n h r w = absurd (cc)

-- an array has what was stored in it
element_known : (a b : Pure.Content) (xs : Elements) (k : Key) (v : Scalar) → is_array_content a ≡ true → ContentAfter a xs b → In (k, v) xs → (r w : ℕ) → (cell_hashed (hash_of k) (Some (record { reads = r; writes = w; content = b })) || is_shut (Some (record { reads = r; writes = w; content = b }))) ≡ true
element_known Pure.Unset b xs k v n h i r w = absurd (cc)
element_known (Pure.Holding y) b xs k v n h i r w = absurd (cc)
element_known (Pure.Mapping ys) b xs k v n h i r w =
    ap (λ (c : Pure.Content). has_hash (hash_of k) (elements_in c) || nat_eq w 0) h.1 ∙ ap (λ c. c || nat_eq w 0) (marked_there k v h.0 (h.3 (k, v) (inr i)))

-- each kind of change
pub value_sound : (n : ℕ) (v : Scalar) (rs ws : ℕ → ℕ) (s stored t : Store) → IsScalarTarget (Some n) s → StoresIn (Some n) ((only, v) ∷ []) s stored → ((d : ℕ) (y : Datum) → at stored d ≡ Some y → at t d ≡ kept (fewer (rs d) (ws d) y)) → ((d : ℕ) → at stored d ≡ None → at t d ≡ None) → is_known (cells_view t.cells) (Whole n) ≡ true
value_sound n v rs ws s stored t can stores given nothing = by (at s n) refl
  where
    by : (r : Option Datum) → at s n ≡ r → is_known (cells_view t.cells) (Whole n) ≡ true
    by None q = ap cell_known (cell_there t.cells n ∙ ap (option_map cell_view) (nothing n (stores.nothing n q)))
    by (Some y) q =
        let st = stores.there n y q in
        let c = subst (λ (b : Bool). ContentAfter (content_view y.content) (if b then (only, v) ∷ [] else []) (content_view st.0)) (nat_same n) st.2 in
        let plain : is_array_content (content_view y.content) ≡ false = array_seen y ∙ ap is_keyed (sym q) ∙ can n refl in
        kept_known (fewer (rs n) (ws n) (record { content = st.0; reads = y.reads; writes = y.writes })) t n (given n (record { content = st.0; reads = y.reads; writes = y.writes }) st.1) (scalar_known (content_view y.content) (content_view st.0) (only, v) plain c (y.reads - rs n) (y.writes - ws n))

pub elements_sound : (n : ℕ) (es : List Element) (rs ws : ℕ → ℕ) (s stored t : Store) → Takes n es s → StoresIn (Some n) (pairs es) s stored → ((d : ℕ) (y : Datum) → at stored d ≡ Some y → at t d ≡ kept (fewer (rs d) (ws d) y)) → ((d : ℕ) → at stored d ≡ None → at t d ≡ None) → (e : Element) → In e es → is_known (cells_view t.cells) (AnElement n (hash_of e.key)) ≡ true
elements_sound n es rs ws s stored t takes stores given nothing e i = by (at s n) refl
  where
    seen : Option Counted → Bool
    seen r = cell_hashed (hash_of e.key) r || is_shut r

    by : (r : Option Datum) → at s n ≡ r → is_known (cells_view t.cells) (AnElement n (hash_of e.key)) ≡ true
    by None q = ap (λ r. cell_hashed (hash_of e.key) r || is_shut r) (cell_there t.cells n ∙ ap (option_map cell_view) (nothing n (stores.nothing n q)))
    by (Some y) q =
        let st = stores.there n y q in
        let c = subst (λ (b : Bool). ContentAfter (content_view y.content) (if b then pairs es else []) (content_view st.0)) (nat_same n) st.2 in
        let z : Datum = fewer (rs n) (ws n) (record { content = st.0; reads = y.reads; writes = y.writes }) in
        let array : is_array_content (content_view y.content) ≡ true = array_seen y ∙ keyed y q in
        let known = element_known (content_view y.content) (content_view st.0) (pairs es) e.key e.value array c (in_map (λ (u : Element). (u.key, u.value)) e es i) (y.reads - rs n) (y.writes - ws n) in
        elim (cases_Bool (is_spent z)) [
          | inl lost ↦ ap (λ r. cell_hashed (hash_of e.key) r || is_shut r) (cell_there t.cells n ∙ ap (option_map cell_view) (given n (record { content = st.0; reads = y.reads; writes = y.writes }) st.1 ∙ kept_gone z lost))
          | inr stays ↦ ap (λ r. cell_hashed (hash_of e.key) r || is_shut r) (cell_there t.cells n ∙ ap (option_map cell_view) (given n (record { content = st.0; reads = y.reads; writes = y.writes }) st.1 ∙ kept_there z stays)) ∙ known
        ]
      where
        keyed : (y : Datum) → at s n ≡ Some y → is_keyed (Some y) ≡ true
        keyed y q = of y.content (subst (λ (r : Option Datum). IsSomeAnd r (λ u. IsArray u.content)) q takes.is_array)
          where
            of : (c : Content) → IsArray c → is_keyed (Some (record { content = c; reads = y.reads; writes = y.writes })) ≡ true
            of (OfScalar u) h = absurd h
            of (OfArray a) h = refl

-- all that a change stores becomes known
pub told_sound : (x : Change) (rs ws : ℕ → ℕ) (s stored t : Store) → CanStore x s → StoresIn (target_of x) (values_of x) s stored → ((d : ℕ) (y : Datum) → at stored d ≡ Some y → at t d ≡ kept (fewer (rs d) (ws d) y)) → ((d : ℕ) → at stored d ≡ None → at t d ≡ None) →
    (w : Want ℕ) → In w (told_of x) → is_known (cells_view t.cells) w ≡ true
told_sound Changes.Nothing rs ws s stored t can stores given nothing w i = absurd i
told_sound (Changes.Value None v) rs ws s stored t can stores given nothing w i = absurd i
told_sound (Changes.Value (Some n) v) rs ws s stored t can stores given nothing w i = elim i [
  | inl e ↦ subst (λ (u : Want ℕ). is_known (cells_view t.cells) u ≡ true) (sym e) (value_sound n v rs ws s stored t can stores given nothing)
  | inr n ↦ absurd n
]
told_sound (Changes.Element None k v) rs ws s stored t can stores given nothing w i = absurd i
told_sound (Changes.Element (Some n) k v) rs ws s stored t can stores given nothing w i = elim i [
  | inl e ↦ subst (λ (u : Want ℕ). is_known (cells_view t.cells) u ≡ true) (sym e) (elements_sound n (element k v ∷ []) rs ws s stored t (can n refl) stores given nothing (element k v) (inl refl))
  | inr n ↦ absurd n
]
told_sound (Changes.Elements None es) rs ws s stored t can stores given nothing w i = absurd i
told_sound (Changes.Elements (Some n) es) rs ws s stored t can stores given nothing w i =
    let p = in_unmap (λ (e : Element). AnElement n (hash_of e.key)) w es.items i in
    subst (λ (u : Want ℕ). is_known (cells_view t.cells) u ≡ true) p.2 (elements_sound n es.items rs ws s stored t (can n refl) stores given nothing p.0 p.1)
told_sound (Changes.Opens o) rs ws s stored t can stores given nothing w i = absurd i

-- where something is stored, there is the target
stored_here : (d : ℕ) (target : Option ℕ) (vs : Elements) (y : Key × Scalar) → In y (if is_place d target then vs else []) → (target ≡ Some d) × In y vs
stored_here d None vs y i = absurd i
stored_here d (Some n) vs y i = by (nat_eq d n) refl i
  where
    by : (b : Bool) → nat_eq d n ≡ b → In y (if nat_eq d n then vs else []) → (Some n ≡ Some d) × In y vs
    by true q i = (ap Some (sym (nat_sound d n q)), subst (λ (c : Bool). In y (if c then vs else [])) q i)
    by false q i = absurd (subst (λ (c : Bool). In y (if c then vs else [])) q i)

array_of : (s : Store) (d : ℕ) (c : Counted) → slot_at (cells_view s.cells) d ≡ Some c → IsArrayAt s d → is_array_content c.content ≡ true
array_of s d c e h =
    let y = seen_there s d c e in
    ap (λ (u : Counted). is_array_content u.content) (sym y.2) ∙ array_seen y.0 ∙ of y.0.content y.0.reads y.0.writes (subst (λ (r : Option Datum). IsSomeAnd r (λ u. IsArray u.content)) y.1 h)
  where
    of : (k : Content) (r w : ℕ) → IsArray k → is_keyed (Some (record { content = k; reads = r; writes = w })) ≡ true
    of (OfScalar u) r w h = absurd h
    of (OfArray a) r w h = refl

scalar_of : (s : Store) (d : ℕ) (c : Counted) → slot_at (cells_view s.cells) d ≡ Some c → is_keyed (at s d) ≡ false → is_array_content c.content ≡ false
scalar_of s d c e h =
    let y = seen_there s d c e in
    ap (λ (u : Counted). is_array_content u.content) (sym y.2) ∙ array_seen y.0 ∙ ap is_keyed (sym y.1) ∙ h

differ : {B : Type 0} (b : Bool) → b ≡ true → b ≡ false → B
differ b t f = let e : true ≡ false = sym t ∙ f in absurd cc

-- what a change stores is told
pub put_told : (x : Change) (s : Store) → CanStore x s → (d : ℕ) (c : Counted) (y : Key × Scalar) → slot_at (cells_view s.cells) d ≡ Some c → is_array_content c.content ≡ false → In y (if is_place d (target_of x) then values_of x else []) → In (Whole d) (told_of x)
put_told Changes.Nothing s can d c y e plain i = absurd i
put_told (Changes.Value target v) s can d c y e plain i = let h = stored_here d target ((only, v) ∷ []) y i in subst (λ (r : Option ℕ). In (Whole d) (whole_of r)) (sym h.0) (inl refl)
put_told (Changes.Element target k v) s can d c y e plain i = let h = stored_here d target ((k, v) ∷ []) y i in differ (is_array_content c.content) (array_of s d c e (can d h.0).is_array) plain
put_told (Changes.Elements target es) s can d c y e plain i = let h = stored_here d target (pairs es.items) y i in differ (is_array_content c.content) (array_of s d c e (can d h.0).is_array) plain
put_told (Changes.Opens o) s can d c y e plain i = absurd i

pub inserted_told : (x : Change) (s : Store) → CanStore x s → (d : ℕ) (c : Counted) (k : Key) (v : Scalar) → slot_at (cells_view s.cells) d ≡ Some c → is_array_content c.content ≡ true → In (k, v) (if is_place d (target_of x) then values_of x else []) → In (AnElement d (hash_of k)) (told_of x)
inserted_told Changes.Nothing s can d c k v e array i = absurd i
inserted_told (Changes.Value target u) s can d c k v e array i = let h = stored_here d target ((only, u) ∷ []) (k, v) i in differ (is_array_content c.content) array (scalar_of s d c e (can d h.0))
inserted_told (Changes.Element target l u) s can d c k v e array i =
    let h = stored_here d target ((l, u) ∷ []) (k, v) i in
    elim h.1 [
      | inl q ↦ subst (λ (r : Option ℕ). In (AnElement d (hash_of k)) (elements_of r (element l u ∷ []))) (sym h.0) (inl (ap (λ (z : Key × Scalar). AnElement d (hash_of z.0)) q))
      | inr n ↦ absurd n
    ]
inserted_told (Changes.Elements target es) s can d c k v e array i =
    let h = stored_here d target (pairs es.items) (k, v) i in
    let p = in_unmap (λ (u : Element). (u.key, u.value)) (k, v) es.items h.1 in
    subst (λ (r : Option ℕ). In (AnElement d (hash_of k)) (elements_of r es.items)) (sym h.0) (subst (λ (z : Key). In (AnElement d (hash_of z)) (map (λ (u : Element). AnElement d (hash_of u.key)) es.items)) (ap (λ (z : Key × Scalar). z.0) p.2) (in_map (λ (u : Element). AnElement d (hash_of u.key)) p.0 es.items p.1))
inserted_told (Changes.Opens o) s can d c k v e array i = absurd i
