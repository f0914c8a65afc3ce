-- What a need misses by the fields, of scalars, arrays and elements alike, is what is not known in the state.
use Rattle.std.proofs.Common.{◌≡◌, ◌↔◌, inl, inr, ℕ, Bool, true, false, not, List, [], ◌∷◌, refl, sym, ap, ◌∙◌, subst, Option, None, Some}
use Rattle.std.specs.List.{list_all}
use Rattle.std.proofs.lemmas.Bool.{not-true, and_parts}
use Rattle.dataflow.specs.System.{ClosedArray, ElementAt, ElementOf, In, Input}
use Rattle.dataflow.specs.Machine.{Event, Holds, IsElementKnown, IsKnown}
use Rattle.dataflow.proofs.Known.{one_value}
use Rattle.board_history.specs.Fields as Fields
use Rattle.board_history.specs.Fields.{Counted, DatumOf, Holding, Layout, Mapping, Slot, Unset, Want, slot_at}
use Rattle.board_history.specs.Needs.{at_missed, cell_element, cell_value, element_missed, elements_in, found, index_missed, indexed_missed, is_shut, literal_missed, missed, value_in}
use Rattle.board_history.specs.Stands.{ContentStands, Stands, array_wanted, element_wanted}
use Rattle.board_history.proofs.EndedNames.{Resolved, to_datum, to_literal}
use Rattle.board_history.proofs.EndedWants.{scalar_place}
use Rattle.board_history.proofs.Tests.{none_some, some_same, yes_no}
use Rattle.task_code.proofs.Equal.{every_in}
use Rattle.task_code.proofs.Kept.{code_laws}
use Rattle.task_code.specs.Code.{At, AtKey, Closed, Code, Name, Need, Stored, Variable, entry, is_array_name}
use Rattle.task_code.specs.Compute.{Elements, key_of}
use Rattle.task_code.specs.Effects.{only}
use Rattle.task_code.specs.Places.{Datum, Place, Step, place_at}
use Rattle.task_code.specs.Shape.{fits_kinds}
use Rattle.task_code.specs.System.{code_system, element_input, inputs_at, key_input}
use Rattle.task_code.specs.Whole.{IsCode}
use Rattle.values.specs.Keys.{hash_of}
use Rattle.values.specs.declared.key.Key.{Key}
use Rattle.values.specs.declared.value.Scalar.{Scalar}
use Rattle.board.proofs.Answering.{no_literal}
use Rattle.board.proofs.Reading.{follows, found_in, in_found, log}
use Rattle.board.proofs.Stuck.{array_by, cons_nil, need_told}

module _ (C : Code) (I : IsCode C) (L : Layout) (es : List Event) (F : Fields.Fields) (x : Stands C L es F) where
  abbrev AllKnown : List (Input Place Key) → Type 0
  AllKnown is = (i : Input Place Key) → In i is → IsKnown (code_system C) x.state i

  one_known : (i : Input Place Key) → IsKnown (code_system C) x.state i → AllKnown (i ∷ [])
  one_known i h j m = elim m [ inl p ↦ subst (λ (y : Input Place Key). IsKnown (code_system C) x.state y) (sym p) h | inr g ↦ absurd g ]

  -- the elements of an array by its key
  record Held (d : ℕ) (a : Place) : Type 0 where
    elements : Elements
    at : (k : Key) → cell_element k (slot_at F.cells d) ≡ found k elements
    all : (k : Key) (u : Scalar) → Holds (code_system C) x.state a k u → In (k, u) elements
    only_these : (k : Key) (u : Scalar) → In (k, u) elements → Holds (code_system C) x.state a k u

  held : (d : ℕ) (q : List Step) (v : Variable) → In (d, Datum q v) x.names → v.array ≡ true → Held d (Datum q v)
  held d q v h ar = (let c = x.data_stand.there d (Datum q v) h in by c.0 c.1 c.0.content v.array ar c.2.content refl)
    where
      by : (c : Counted) → slot_at F.cells d ≡ Some c → (z : Fields.Content) (b : Bool) → b ≡ true → ContentStands C x.state (Datum q v) b z → c.content ≡ z → Held d (Datum q v)
      by c s Unset true e st g = absurd st
      by c s Unset false e st g = yes_no e refl
      by c s (Holding u) true e st g = absurd st
      by c s (Holding u) false e st g = yes_no e refl
      by c s (Mapping ys) false e st g = absurd st
      by c s (Mapping ys) true e st g = record { elements = ys; at = λ k. ap (cell_element k) s ∙ ap (λ (w : Fields.Content). found k (elements_in w)) g; all = st.0; only_these = st.1 }

  element_by : (d : ℕ) (q : List Step) (v : Variable) (k : Key) → In (d, Datum q v) x.names → v.array ≡ true
      → (element_wanted (cell_element k (slot_at F.cells d)) (is_shut (slot_at F.cells d)) d (hash_of k) ≡ []) ↔ IsElementKnown (code_system C) x.state (Datum q v) k
  element_by d q v k h ar = (
    λ w. known (found k e.elements) (is_shut (slot_at F.cells d)) refl refl (ap (λ (o : Option Scalar). element_wanted o (is_shut (slot_at F.cells d)) d (hash_of k)) (sym (e.at k)) ∙ w),
    λ n. ap (λ (o : Option Scalar). element_wanted o (is_shut (slot_at F.cells d)) d (hash_of k)) (e.at k) ∙ nothing (found k e.elements) (is_shut (slot_at F.cells d)) refl refl n,
  )
    where
      e : Held d (Datum q v)
      e = held d q v h ar

      closing : (array_wanted (is_shut (slot_at F.cells d)) d ≡ []) ↔ ((i : Input Place Key) → In i (ClosedArray (Datum q v) ∷ []) → IsKnown (code_system C) x.state i)
      closing = array_by C I L es F x d q v h

      known : (o : Option Scalar) (b : Bool) → found k e.elements ≡ o → is_shut (slot_at F.cells d) ≡ b → element_wanted o b d (hash_of k) ≡ [] → IsElementKnown (code_system C) x.state (Datum q v) k
      known (Some u) b f s w = inl (u, e.only_these k u (found_in k e.elements u f))
      known None true f s w = inr (closing.0 (ap (λ (z : Bool). array_wanted z d) s) (ClosedArray (Datum q v)) (inl refl))
      known None false f s w = cons_nil w

      nothing : (o : Option Scalar) (b : Bool) → found k e.elements ≡ o → is_shut (slot_at F.cells d) ≡ b → IsElementKnown (code_system C) x.state (Datum q v) k → element_wanted o b d (hash_of k) ≡ []
      nothing (Some u) b f s n = refl
      nothing None true f s n = refl
      nothing None false f s n =
          elim n [
            | inl y ↦ absurd (in_found k e.elements y.0 (e.all k y.0 y.1) f)
            | inr c ↦ cons_nil (ap (λ (z : Bool). array_wanted z d) (sym s) ∙ closing.1 (one_known (ClosedArray (Datum q v)) c))
          ]

  -- the value of a scalar by its key
  abbrev ValueIs : Place → Option Scalar → Type 0
  ValueIs a None = (u : Scalar) → Holds (code_system C) x.state a only u → ⊥
  ValueIs a (Some u) = Holds (code_system C) x.state a only u

  value_by : (d : ℕ) (q : List Step) (v : Variable) → In (d, Datum q v) x.names → v.array ≡ false → (o : Option Scalar) → cell_value (slot_at F.cells d) ≡ o
      → ValueIs (Datum q v) o
  value_by d q v h na = (let c = x.data_stand.there d (Datum q v) h in by c.0.content v.array na c.2.content (ap cell_value c.1))
    where
      by : (z : Fields.Content) (b : Bool) → b ≡ false → ContentStands C x.state (Datum q v) b z → cell_value (slot_at F.cells d) ≡ value_in z → (o : Option Scalar) → cell_value (slot_at F.cells d) ≡ o
          → ValueIs (Datum q v) o
      by Unset false e st g None f = st
      by Unset false e st g (Some u) f = none_some (sym g ∙ f)
      by Unset true e st g o f = absurd st
      by (Holding u) false e st g None f = none_some (sym f ∙ g)
      by (Holding u) false e st g (Some w) f = subst (λ (z : Scalar). Holds (code_system C) x.state (Datum q v) only z) (some_same (sym g ∙ f)) st
      by (Holding u) true e st g o f = absurd st
      by (Mapping ys) false e st g o f = absurd st
      by (Mapping ys) true e st g o f = yes_no refl e

  one : (a : Place) (k : Key) (v w : Scalar) → Holds (code_system C) x.state a k v → Holds (code_system C) x.state a k w → v ≡ w
  one = one_value (code_system C) (code_laws C I) x.state (log C I L es F x) (follows C I L es F x)

  module _ (e : ℕ) (p : List Step) (f : Name → Slot) (res : (r : Name) → In r (entry C e).reads → Resolved C x.names (f r) (place_at C p r)) where
    abbrev Told : Need → Type 0
    Told m = (missed C F.cells f m ≡ []) ↔ AllKnown (inputs_at C p m)

    one_told : (i : Input Place Key) (ws : List (Want ℕ)) → (ws ≡ []) ↔ IsKnown (code_system C) x.state i → (ws ≡ []) ↔ AllKnown (i ∷ [])
    one_told i ws h = (λ w. one_known i (h.0 w), λ k. h.1 (k i (inl refl)))

    key_told : (a : Name) (k : Key) → is_array_name a ≡ true → Resolved C x.names (f a) (place_at C p a) → Told (AtKey a k)
    key_told a k ar (to_datum d q v px pa i) =
        subst (λ (y : Slot). (element_missed F.cells y k ≡ []) ↔ AllKnown (inputs_at C p (AtKey a k))) (sym px)
        (subst (λ (b : Place). (element_missed F.cells (DatumOf d) k ≡ []) ↔ AllKnown (key_input b k)) (sym pa)
        (one_told (ElementOf (Datum q v) k) (element_missed F.cells (DatumOf d) k) (element_by d q v k i (scalar_place C p a q v true ar pa))))
    key_told a k ar (to_literal m n v px pa l) = no_literal C p a v ar pa

    index_told : (d : ℕ) (q : List Step) (v : Variable) → In (d, Datum q v) x.names → v.array ≡ true → (g : ℕ) (z : List Step) (u : Variable) → In (g, Datum z u) x.names → u.array ≡ false
        → (o : Option Scalar) → cell_value (slot_at F.cells g) ≡ o → (indexed_missed F.cells d g o ≡ []) ↔ IsKnown (code_system C) x.state (ElementAt (Datum q v) (Datum z u))
    index_told d q v i ar g z u j na None c = (λ w. cons_nil w, λ n. absurd (value_by g z u j na None c n.0 n.1))
    index_told d q v i ar g z u j na (Some y) c =
        let stored = value_by g z u j na (Some y) c in
        let told = element_by d q v (key_of y) i ar in (
          λ w. (y, stored, told.0 w),
          λ n. told.1 (subst (λ (t : Scalar). IsElementKnown (code_system C) x.state (Datum q v) (key_of t)) (one (Datum z u) only n.0 y n.1 stored) n.2),
        )

    at_told : (a r : Name) → is_array_name a ≡ true → is_array_name r ≡ false → Resolved C x.names (f a) (place_at C p a) → Resolved C x.names (f r) (place_at C p r) → Told (At a r)
    at_told a r ar na (to_datum d q v px pa i) (to_datum g z u pr zr h) =
        subst (λ (y : Slot). (at_missed C F.cells y (f r) ≡ []) ↔ AllKnown (element_input (place_at C p a) (place_at C p r))) (sym px)
        (subst (λ (y : Slot). (index_missed C F.cells d y ≡ []) ↔ AllKnown (element_input (place_at C p a) (place_at C p r))) (sym pr)
        (subst (λ (b : Place). (indexed_missed F.cells d g (cell_value (slot_at F.cells g)) ≡ []) ↔ AllKnown (element_input b (place_at C p r))) (sym pa)
        (subst (λ (b : Place). (indexed_missed F.cells d g (cell_value (slot_at F.cells g)) ≡ []) ↔ AllKnown (element_input (Datum q v) b)) (sym zr)
        (one_told (ElementAt (Datum q v) (Datum z u)) (indexed_missed F.cells d g (cell_value (slot_at F.cells g)))
        (index_told d q v i (scalar_place C p a q v true ar pa) g z u h (scalar_place C p r z u false na zr) (cell_value (slot_at F.cells g)) refl)))))
    at_told a r ar na (to_datum d q v px pa i) (to_literal m n u pr zr l) =
        subst (λ (y : Slot). (at_missed C F.cells y (f r) ≡ []) ↔ AllKnown (element_input (place_at C p a) (place_at C p r))) (sym px)
        (subst (λ (y : Slot). (index_missed C F.cells d y ≡ []) ↔ AllKnown (element_input (place_at C p a) (place_at C p r))) (sym pr)
        (subst (λ (o : Option Scalar). (literal_missed F.cells d o ≡ []) ↔ AllKnown (element_input (place_at C p a) (place_at C p r))) (sym l)
        (subst (λ (b : Place). (element_missed F.cells (DatumOf d) (key_of u) ≡ []) ↔ AllKnown (element_input b (place_at C p r))) (sym pa)
        (subst (λ (b : Place). (element_missed F.cells (DatumOf d) (key_of u) ≡ []) ↔ AllKnown (element_input (Datum q v) b)) (sym zr)
        (one_told (ElementOf (Datum q v) (key_of u)) (element_missed F.cells (DatumOf d) (key_of u)) (element_by d q v (key_of u) i (scalar_place C p a q v true ar pa)))))))
    at_told a r ar na (to_literal m n v px pa l) h = no_literal C p a v ar pa

    kinds : (m : Need) → In m (entry C e).needs → fits_kinds m ≡ true
    kinds m i = every_in fits_kinds (entry C e).needs (and_parts (list_all fits_kinds (entry C e).needs) _ (I.shape e)).0 m i

    pub any_told : (m : Need) → In m (entry C e).needs → Told m
    any_told (Stored r) i = need_told C I L es F x e p f res (Stored r) refl i
    any_told (Closed r) i = need_told C I L es F x e p f res (Closed r) refl i
    any_told (At a r) i =
        let k = and_parts (is_array_name a) (not (is_array_name r)) (kinds (At a r) i) in
        at_told a r k.0 (not-true (is_array_name r) k.1) (res a (I.needs e (At a r) a i (inl refl))) (res r (I.needs e (At a r) r i (inr (inl refl))))
    any_told (AtKey a k) i = key_told a k (kinds (AtKey a k) i) (res a (I.needs e (AtKey a k) a i (inl refl)))
