-- The answers that the fields give are those that an item's inputs have in the state.
use Rattle.std.proofs.Common.{◌≡◌, inl, inr, ℕ, zero, suc, Bool, true, false, not, List, [], ◌∷◌, ◌++◌, map, refl, sym, ap, ◌∙◌, subst, Option, None, Some}
use Rattle.std.specs.List.{flat_map, list_all}
use Rattle.std.proofs.lemmas.Bool.{not-true, and_parts}
use Rattle.dataflow.specs.System.{Answer, ClosedArray, ElementAt, ElementOf, Found, In, Input, StoredScalar}
use Rattle.dataflow.specs.Machine.{Event, Holds, IsElementKnown, IsKnown, Sees, SeesAll, SeesElement}
use Rattle.dataflow.proofs.Known.{one_value}
use Rattle.dataflow.proofs.Lists.{in_left, in_right}
use Rattle.board_history.specs.Fields as Fields
use Rattle.board_history.specs.Fields.{Counted, DatumOf, Layout, LiteralOf, Mapping, Slot, literal, slot_at}
use Rattle.board_history.specs.Needs.{cell_element}
use Rattle.board_history.specs.Stands.{Stands}
use Rattle.board_history.proofs.EndedNames.{Resolved, to_datum, to_literal}
use Rattle.board_history.proofs.EndedWants.{scalar_place}
use Rattle.board_history.proofs.Tests.{none_some, yes_no}
use Rattle.task_code.proofs.Equal.{every_in}
use Rattle.task_code.proofs.Kept.{code_laws}
use Rattle.task_code.proofs.Places.{argued, argument_kind}
use Rattle.task_code.specs.Code.{Argument, At, AtKey, Closed, Code, Fixed, Local, Name, Named, Need, Owned, Parameter, Stored, Variable, argument, argument_in, arguments, call_at, entry, is_array_name, is_array_owned}
use Rattle.task_code.specs.Compute.{Elements, in_key_order, key_of}
use Rattle.task_code.specs.Effects.{only}
use Rattle.task_code.specs.Machine.{CodeState}
use Rattle.task_code.specs.Places.{Constant, Datum, Nowhere, Place, Step, place_at, resolve}
use Rattle.task_code.specs.Shape.{fits_kinds}
use Rattle.task_code.specs.System.{answered, code_system, element_input, inputs_at, key_input, literal_at, literal_need, scalar_input, whole_input, with_answer}
use Rattle.task_code.specs.Whole.{IsCode}
use Rattle.values.specs.Values.{same_truth}
use Rattle.values.specs.declared.key.Key.{Key}
use Rattle.values.specs.declared.value.Scalar.{Scalar}
use Rattle.board_data.specs.Answered.{array_answer, scalar_answer}
use Rattle.board_data.specs.Wanted.{element_by, element_in, scalar_in}
use Rattle.board.proofs.Reading.{array_seen, element_seen, follows, log, scalar_seen}

-- a literal is no array's
fixed_scalar : (rs : List Argument) (k : ℕ) (b : Bool) (c : Scalar) → argument_in rs k b ≡ Some (Fixed c) → b ≡ false
fixed_scalar [] k b c h = none_some h
fixed_scalar (Named r ∷ rs) zero b c h = by (same_truth (is_array_name r) b) h
  where
    by : (t : Bool) → ◌≡◌ {A = Option Argument} (elim t [ true ↦ Some (Named r) | false ↦ None ]) (Some (Fixed c)) → b ≡ false
    by true h = absurd (cc)
    by false h = none_some h
fixed_scalar (Fixed v ∷ rs) zero true c h = none_some h
fixed_scalar (Fixed v ∷ rs) zero false c h = refl
fixed_scalar (Named r ∷ rs) (suc k) b c h = fixed_scalar rs k b c h
fixed_scalar (Fixed v ∷ rs) (suc k) b c h = fixed_scalar rs k b c h

datum_constant : {A : Type 0} {q : List Step} {v : Variable} {c : Scalar} → Datum q v ≡ Constant c → A
datum_constant h = absurd (cc)

nowhere_constant : {A : Type 0} {c : Scalar} → Nowhere ≡ Constant c → A
nowhere_constant h = absurd (cc)

literal_scalar : (C : Code) (p : List Step) (up : ℕ) (x : Owned) (c : Scalar) → resolve C p up x ≡ Constant c → is_array_owned x ≡ false
literal_scalar C [] zero (Local w) c h = datum_constant h
literal_scalar C [] zero (Parameter k b) c h = nowhere_constant h
literal_scalar C [] (suc up) x c h = nowhere_constant h
literal_scalar C (s ∷ p) zero (Local w) c h = datum_constant h
literal_scalar C (s ∷ p) zero (Parameter k b) c h = by (λ r e. literal_scalar C p r.up r.owned c e) (argument C s.offset k b) refl h
  where
    by : ((r : Name) → resolve C p r.up r.owned ≡ Constant c → is_array_owned r.owned ≡ false) → (o : Option Argument) → argument C s.offset k b ≡ o → argued C p o ≡ Constant c → b ≡ false
    by f None e h = nowhere_constant h
    by f (Some (Fixed v)) e h = fixed_scalar (arguments (entry C (call_at C s.offset)).act) k b v e
    by f (Some (Named r)) e h = named (arguments (entry C (call_at C s.offset)).act) k r e (f r h)
      where
        named : (rs : List Argument) (k : ℕ) (r : Name) → argument_in rs k b ≡ Some (Named r) → is_array_owned r.owned ≡ false → b ≡ false
        named rs k r e n = sym (argument_kind rs k b r e) ∙ n
literal_scalar C (s ∷ p) (suc up) x c h = literal_scalar C p up x c h

pub no_literal : {A : Type 0} (C : Code) (p : List Step) (r : Name) (c : Scalar) → is_array_name r ≡ true → place_at C p r ≡ Constant c → A
no_literal C p r c a h = yes_no a (literal_scalar C p r.up r.owned c h)

module _ (C : Code) (p : List Step) (s : CodeState) where
  -- what a need sees: it is a literal, or its one input sees it once it is known
  pub data NeedSeen (n : Need) (a : Answer Key Scalar) : Type 0 where
    by_literal : (v : Scalar) → literal_need C p n ≡ Some v → inputs_at C p n ≡ [] → a ≡ Found v → NeedSeen n a
    by_input : (i : Input Place Key) → literal_need C p n ≡ None → inputs_at C p n ≡ i ∷ [] → (IsKnown (code_system C) s i → Sees (code_system C) s i a) → NeedSeen n a

  -- all needs
  pub all_seen : (f : Need → Answer Key Scalar) (ns : List Need) → ((n : Need) → In n ns → NeedSeen n (f n)) → ((i : Input Place Key) → In i (flat_map (inputs_at C p) ns) → IsKnown (code_system C) s i)
      → (ys : List (Answer Key Scalar)) × SeesAll (code_system C) s (flat_map (inputs_at C p) ns) ys × (answered C p ns ys ≡ map f ns)
  all_seen f [] seen known = ([], tt, refl)
  all_seen f (n ∷ ns) seen known = by (seen n (inl refl)) (all_seen f ns (λ m i. seen m (inr i)) (λ i h. known i (in_right i (inputs_at C p n) (flat_map (inputs_at C p) ns) h)))
    where
      by : NeedSeen n (f n) → ((ys : List (Answer Key Scalar)) × SeesAll (code_system C) s (flat_map (inputs_at C p) ns) ys × (answered C p ns ys ≡ map f ns))
          → (ys : List (Answer Key Scalar)) × SeesAll (code_system C) s (inputs_at C p n ++ flat_map (inputs_at C p) ns) ys × (answered C p (n ∷ ns) ys ≡ f n ∷ map f ns)
      by (by_literal v l e a) r = (
        r.0,
        subst (λ (is : List (Input Place Key)). SeesAll (code_system C) s (is ++ flat_map (inputs_at C p) ns) r.0) (sym e) r.1,
        ap (λ (o : Option Scalar). with_answer o r.0 (λ ys. answered C p ns ys)) l ∙ (λ k. sym a k ∷ r.2 k),
      )
      by (by_input i l e see) r = (
        f n ∷ r.0,
        subst (λ (is : List (Input Place Key)). SeesAll (code_system C) s (is ++ flat_map (inputs_at C p) ns) (f n ∷ r.0)) (sym e)
            (see (known i (in_left i (inputs_at C p n) (flat_map (inputs_at C p) ns) (subst (λ (is : List (Input Place Key)). In i is) (sym e) (inl refl)))), r.1),
        ap (λ (o : Option Scalar). with_answer o (f n ∷ r.0) (λ ys. answered C p ns ys)) l ∙ ap (λ (ys : List (Answer Key Scalar)). f n ∷ ys) r.2,
      )

module _ (C : Code) (I : IsCode C) (L : Layout) (es : List Event) (F : Fields.Fields) (x : Stands C L es F) (order : (d : ℕ) (c : Counted) (ys : Elements) → slot_at F.cells d ≡ Some c → c.content ≡ Mapping ys → in_key_order ys ≡ true) (e : ℕ) (p : List Step) (f : Name → Slot) (res : (r : Name) → In r (entry C e).reads → Resolved C x.names (f r) (place_at C p r)) where
  abbrev s : CodeState
  s = x.state

  -- the answer to a need, by what its names stand for
  abbrev pub need_answer : Need → Answer Key Scalar
  need_answer (Stored r) = scalar_answer (scalar_in C F.cells (f r))
  need_answer (Closed r) = array_answer C F.cells (f r)
  need_answer (At a r) = scalar_answer (element_by C F.cells (f a) (scalar_in C F.cells (f r)))
  need_answer (AtKey a k) = scalar_answer (element_in C F.cells (f a) k)

  one : (a : Place) (k : Key) (v w : Scalar) → Holds (code_system C) s a k v → Holds (code_system C) s a k w → v ≡ w
  one = one_value (code_system C) (code_laws C I) s (log C I L es F x) (follows C I L es F x)

  stored_seen : (r : Name) → is_array_name r ≡ false → Resolved C x.names (f r) (place_at C p r) → NeedSeen C p s (Stored r) (need_answer (Stored r))
  stored_seen r na (to_datum d q v px pa i) =
      by_input (StoredScalar (Datum q v)) (ap literal_at pa) (ap scalar_input pa)
      (λ known. (let z = scalar_seen C I L es F x order d q v i (scalar_place C p r q v false na pa) known in (z.0, z.2, ap (λ (y : Slot). scalar_answer (scalar_in C F.cells y)) px ∙ ap scalar_answer z.1)))
  stored_seen r na (to_literal m k v px pa l) =
      by_literal v (ap literal_at pa) (ap scalar_input pa) (ap (λ (y : Slot). scalar_answer (scalar_in C F.cells y)) px ∙ ap scalar_answer l)

  closed_seen : (r : Name) → is_array_name r ≡ true → Resolved C x.names (f r) (place_at C p r) → NeedSeen C p s (Closed r) (need_answer (Closed r))
  closed_seen r ar (to_datum d q v px pa i) =
      by_input (ClosedArray (Datum q v)) refl (ap whole_input pa)
      (λ known. subst (λ (y : Slot). Sees (code_system C) s (ClosedArray (Datum q v)) (array_answer C F.cells y)) (sym px) (array_seen C I L es F x order d q v i (scalar_place C p r q v true ar pa) known))
  closed_seen r ar (to_literal m k v px pa l) = no_literal C p r v ar pa

  key_seen : (a : Name) (k : Key) → is_array_name a ≡ true → Resolved C x.names (f a) (place_at C p a) → NeedSeen C p s (AtKey a k) (need_answer (AtKey a k))
  key_seen a k ar (to_datum d q v px pa i) =
      by_input (ElementOf (Datum q v) k) refl (ap (λ (y : Place). key_input y k) pa)
      (λ known. subst (λ (y : Slot). SeesElement (code_system C) s (Datum q v) k (scalar_answer (element_in C F.cells y k))) (sym px) (element_seen C I L es F x order d q v i (scalar_place C p a q v true ar pa) k known))
  key_seen a k ar (to_literal m n v px pa l) = no_literal C p a v ar pa

  index_seen : (a : Name) (d : ℕ) (q : List Step) (v : Variable) → f a ≡ DatumOf d → place_at C p a ≡ Datum q v → In (d, Datum q v) x.names → v.array ≡ true → (r : Name) → is_array_name r ≡ false → Resolved C x.names (f r) (place_at C p r) → NeedSeen C p s (At a r) (need_answer (At a r))
  index_seen a d q v pa za i ar r na (to_datum g z u pr zr h) =
      by_input (ElementAt (Datum q v) (Datum z u)) refl ((λ k. element_input (za k) (zr k)))
      (λ known.
      (let y = scalar_seen C I L es F x order g z u h (scalar_place C p r z u false na zr) (known.0, known.1) in
      let same : known.0 ≡ y.0 = one (Datum z u) only known.0 y.0 known.1 y.2 in
      let answer : need_answer (At a r) ≡ scalar_answer (cell_element (key_of y.0) (slot_at F.cells d)) =
      (λ k. scalar_answer (element_by C F.cells (pa k) (scalar_in C F.cells (pr k)))) ∙ ap (λ (o : Option Scalar). scalar_answer (element_by C F.cells (DatumOf d) o)) y.1 in (
        y.0,
        y.2,
        subst (λ (t : Answer Key Scalar). SeesElement (code_system C) s (Datum q v) (key_of y.0) t) (sym answer)
            (element_seen C I L es F x order d q v i ar (key_of y.0) (subst (λ (t : Scalar). IsElementKnown (code_system C) s (Datum q v) (key_of t)) same known.2)),
      )))
  index_seen a d q v pa za i ar r na (to_literal m n u pr zr l) =
      by_input (ElementOf (Datum q v) (key_of u)) refl ((λ k. element_input (za k) (zr k)))
      (λ known.
      (let answer : need_answer (At a r) ≡ scalar_answer (cell_element (key_of u) (slot_at F.cells d)) =
      (λ k. scalar_answer (element_by C F.cells (pa k) (scalar_in C F.cells (pr k)))) ∙ ap (λ (o : Option Scalar). scalar_answer (element_by C F.cells (DatumOf d) o)) l in
      subst (λ (t : Answer Key Scalar). SeesElement (code_system C) s (Datum q v) (key_of u) t) (sym answer) (element_seen C I L es F x order d q v i ar (key_of u) known)))

  at_seen : (a r : Name) → is_array_name a ≡ true → is_array_name r ≡ false → Resolved C x.names (f a) (place_at C p a) → Resolved C x.names (f r) (place_at C p r) → NeedSeen C p s (At a r) (need_answer (At a r))
  at_seen a r ar na (to_datum d q v pa za i) h = index_seen a d q v pa za i (scalar_place C p a q v true ar za) r na h
  at_seen a r ar na (to_literal m n v pa za l) h = no_literal C p a v ar za

  kinds : (m : Need) → In m (entry C e).needs → fits_kinds m ≡ true
  kinds m i = every_in fits_kinds (entry C e).needs (and_parts (list_all fits_kinds (entry C e).needs) _ (I.shape e)).0 m i

  pub need_seen : (m : Need) → In m (entry C e).needs → NeedSeen C p s m (need_answer m)
  need_seen (Stored r) i = stored_seen r (not-true (is_array_name r) (kinds (Stored r) i)) (res r (I.needs e (Stored r) r i (inl refl)))
  need_seen (Closed r) i = closed_seen r (kinds (Closed r) i) (res r (I.needs e (Closed r) r i (inl refl)))
  need_seen (At a r) i =
      let k = and_parts (is_array_name a) (not (is_array_name r)) (kinds (At a r) i) in
      at_seen a r k.0 (not-true (is_array_name r) k.1) (res a (I.needs e (At a r) a i (inl refl))) (res r (I.needs e (At a r) r i (inr (inl refl))))
  need_seen (AtKey a k) i = key_seen a k (kinds (AtKey a k) i) (res a (I.needs e (AtKey a k) a i (inl refl)))
