-- What items miss after an End without fault.
use Rattle.std.proofs.Common.{◌≡◌, inl, inr, ℕ, zero, suc, Bool, true, false, not, List, [], ◌∷◌, ◌++◌, refl, sym, ap, ◌∙◌, subst, Option, None, Some}
use Rattle.std.specs.List.{flat_map, list_all}
use Rattle.std.proofs.lemmas.Grind.{flat_map-append}
use Rattle.std.proofs.lemmas.Bool.{not-true, and_parts}
use Rattle.dataflow.specs.System.{In, Input}
use Rattle.dataflow.specs.Machine.{Event}
use Rattle.board_history.specs.Elements.{code_tests}
use Rattle.board_history.specs.Fields.{DatumOf, Fields, Layout, LiteralOf, Slot, Want, slot_at}
use Rattle.board_history.specs.Needs.{at_missed, cell_element, cell_value, index_missed, indexed_missed, literal_missed, is_shut, missed}
use Rattle.board_history.specs.Replay.{is_closed, value_at}
use Rattle.board_history.specs.Stands.{AllStand, array_wanted, element_wanted, keyed_wanted, scalar_wanted, wanted}
use Rattle.board_history.proofs.EndedBase.{Ending}
use Rattle.board_history.proofs.EndedCells.{names_after}
use Rattle.board_history.proofs.EndedKnown.{element_told, scalar_told, shut_told}
use Rattle.board_history.proofs.EndedNames.{Resolved, to_datum, to_literal}
use Rattle.board_history.proofs.Tests.{yes_no}
use Rattle.task_code.proofs.Equal.{every_in}
use Rattle.task_code.proofs.Places.{argued, argument_kind, not_nowhere, not_constant, spot_variable}
use Rattle.task_code.specs.Code.{Argument, At, AtKey, Closed, Code, Fixed, Local, Name, Named, Need, Owned, Parameter, Stored, Variable, argument, arguments, call_at, entry, is_array_name, is_array_owned}
use Rattle.task_code.specs.Compute.{key_of}
use Rattle.task_code.specs.Effects.{only}
use Rattle.task_code.specs.Machine.{CodeState}
use Rattle.task_code.specs.Places.{Constant, Datum, Nowhere, Place, Step, place_at, resolve}
use Rattle.task_code.specs.Shape.{fits_kinds}
use Rattle.task_code.specs.System.{code_system, element_input, inputs_at, key_input, scalar_input, whole_input}
use Rattle.task_code.specs.Whole.{IsCode}
use Rattle.values.specs.Keys.{hash_of}
use Rattle.values.specs.declared.key.Key.{Key}
use Rattle.values.specs.declared.value.Scalar.{Scalar}

-- a name of an array is an array's, where it means a datum
pub array_of : (C : Code) (p : List Step) (up : ℕ) (x : Owned) (q : List Step) (v : Variable) → resolve C p up x ≡ Datum q v → is_array_owned x ≡ v.array
array_of C [] zero (Local w) q v h = ap (λ (y : Variable). y.array) (spot_variable h)
array_of C [] zero (Parameter k b) q v h = absurd (not_nowhere h)
array_of C [] (suc up) x q v h = absurd (not_nowhere h)
array_of C (s ∷ p) zero (Local w) q v h = ap (λ (y : Variable). y.array) (spot_variable h)
array_of C (s ∷ p) zero (Parameter k b) q v h = by (λ r e. array_of C p r.up r.owned q v e) (argument C s.offset k b) refl h
  where
    by : ((r : Name) → resolve C p r.up r.owned ≡ Datum q v → is_array_owned r.owned ≡ v.array) → (o : Option Argument) → argument C s.offset k b ≡ o → argued C p o ≡ Datum q v → b ≡ v.array
    by f None e h = absurd (not_nowhere h)
    by f (Some (Fixed c)) e h = absurd (not_constant h)
    by f (Some (Named r)) e h = sym (argument_kind (arguments (entry C (call_at C s.offset)).act) k b r e) ∙ f r h
array_of C (s ∷ p) (suc up) x q v h = array_of C p up x q v h

stand_append : (names : List (ℕ × Place)) (xs ys : List (Want ℕ)) (us vs : List (Want Place)) → AllStand names xs us → AllStand names ys vs → AllStand names (xs ++ ys) (us ++ vs)
stand_append names [] ys [] vs h g = g
stand_append names [] ys (u ∷ us) vs h g = absurd h
stand_append names (x ∷ xs) ys [] vs h g = absurd h
stand_append names (x ∷ xs) ys (u ∷ us) vs h g = (h.0, stand_append names xs ys us vs h.1 g)

pub none_left : (ns : List (ℕ × Place)) (ws : List (Want Place)) → AllStand ns [] ws → ws ≡ []
none_left ns [] h = refl
none_left ns (x ∷ ws) h = absurd h

pub left_none : (ns : List (ℕ × Place)) (vs : List (Want ℕ)) → AllStand ns vs [] → vs ≡ []
left_none ns [] h = refl
left_none ns (x ∷ vs) h = absurd h

pub scalar_place : (C : Code) (p : List Step) (r : Name) (q : List Step) (v : Variable) (b : Bool) → is_array_name r ≡ b → place_at C p r ≡ Datum q v → v.array ≡ b
scalar_place C p r q v b h e = sym (array_of C p r.up r.owned q v e) ∙ h

pub no_element_input : (v : Scalar) (b : Place) → element_input (Constant v) b ≡ []
no_element_input v (Constant u) = refl
no_element_input v (Datum q y) = refl
no_element_input v Nowhere = refl

module _ (C : Code) (I : IsCode C) (L : Layout) (es : List Event) (F : Fields) (w n : ℕ) (t : CodeState) (G : Fields) (P : Ending C L es F w n t G) where
  abbrev names : List (ℕ × Place)
  names = P.x.names

  abbrev later : List (ℕ × Place)
  later = names_after C I L es F w n t G P

  scalar_pair : (d : ℕ) (a : Place) → In (d, a) later → (o : Option Scalar) → AllStand later (scalar_wanted o d) (scalar_wanted o a ++ [])
  scalar_pair d a i None = (i, tt)
  scalar_pair d a i (Some v) = tt

  array_pair : (d : ℕ) (a : Place) → In (d, a) later → (b : Bool) → AllStand later (array_wanted b d) (array_wanted b a ++ [])
  array_pair d a i true = tt
  array_pair d a i false = (i, tt)

  element_pair : (d : ℕ) (a : Place) (k : ℕ) → In (d, a) later → (o : Option Scalar) (b : Bool) → AllStand later (element_wanted o b d k) (element_wanted o b a k ++ [])
  element_pair d a k i (Some v) b = tt
  element_pair d a k i None true = tt
  element_pair d a k i None false = ((i, refl), tt)

  element_at : (d : ℕ) (q : List Step) (v : Variable) (k : Key) → In (d, Datum q v) later → v.array ≡ true → AllStand later (element_wanted (cell_element k (slot_at G.cells d)) (is_shut (slot_at G.cells d)) d (hash_of k)) (element_wanted (value_at (code_system C) code_tests t.stored (Datum q v) k) (is_closed (code_system C) code_tests t (Datum q v)) (Datum q v) (hash_of k) ++ [])
  element_at d q v k i na =
      let e = element_told C I L es F w n t G P d q v i na k in
      let s = shut_told C I L es F w n t G P d q v i in
      subst (λ (o : Option Scalar). AllStand later (element_wanted o (is_shut (slot_at G.cells d)) d (hash_of k)) (element_wanted (value_at (code_system C) code_tests t.stored (Datum q v) k) (is_closed (code_system C) code_tests t (Datum q v)) (Datum q v) (hash_of k) ++ [])) (sym e)
      (subst (λ (b : Bool). AllStand later (element_wanted (value_at (code_system C) code_tests t.stored (Datum q v) k) b d (hash_of k)) (element_wanted (value_at (code_system C) code_tests t.stored (Datum q v) k) (is_closed (code_system C) code_tests t (Datum q v)) (Datum q v) (hash_of k) ++ [])) (sym s)
      (element_pair d (Datum q v) (hash_of k) i (value_at (code_system C) code_tests t.stored (Datum q v) k) (is_closed (code_system C) code_tests t (Datum q v))))

  -- what an entry misses by the fields stands for what it waits for
  module _ (e : ℕ) (p : List Step) (f : Name → Slot) (res : (r : Name) → In r (entry C e).reads → Resolved C later (f r) (place_at C p r)) where
    abbrev Stand : Need → Type 0
    Stand m = AllStand later (missed C G.cells f m) (flat_map (wanted C t) (inputs_at C p m))

    stored_stand : (r : Name) → is_array_name r ≡ false → Resolved C later (f r) (place_at C p r) → Stand (Stored r)
    stored_stand r na (to_datum d q v px pa i) =
        let told = scalar_told C I L es F w n t G P d q v i (scalar_place C p r q v false na pa) in
        subst (λ (x : Slot). AllStand later (missed C G.cells (λ y. x) (Stored r)) (flat_map (wanted C t) (inputs_at C p (Stored r)))) (sym px)
        (subst (λ (a : Place). AllStand later (scalar_wanted (cell_value (slot_at G.cells d)) d) (flat_map (wanted C t) (scalar_input a))) (sym pa)
        (subst (λ (o : Option Scalar). AllStand later (scalar_wanted o d) (scalar_wanted (value_at (code_system C) code_tests t.stored (Datum q v) only) (Datum q v) ++ [])) (sym told)
        (scalar_pair d (Datum q v) i (value_at (code_system C) code_tests t.stored (Datum q v) only))))
    stored_stand r na (to_literal x k v px pa l) =
        subst (λ (y : Slot). AllStand later (missed C G.cells (λ z. y) (Stored r)) (flat_map (wanted C t) (inputs_at C p (Stored r)))) (sym px)
        (subst (λ (a : Place). AllStand later [] (flat_map (wanted C t) (scalar_input a))) (sym pa) tt)

    closed_stand : (r : Name) → Resolved C later (f r) (place_at C p r) → Stand (Closed r)
    closed_stand r (to_datum d q v px pa i) =
        let told = shut_told C I L es F w n t G P d q v i in
        subst (λ (x : Slot). AllStand later (missed C G.cells (λ y. x) (Closed r)) (flat_map (wanted C t) (inputs_at C p (Closed r)))) (sym px)
        (subst (λ (a : Place). AllStand later (array_wanted (is_shut (slot_at G.cells d)) d) (flat_map (wanted C t) (whole_input a))) (sym pa)
        (subst (λ (b : Bool). AllStand later (array_wanted b d) (array_wanted (is_closed (code_system C) code_tests t (Datum q v)) (Datum q v) ++ [])) (sym told)
        (array_pair d (Datum q v) i (is_closed (code_system C) code_tests t (Datum q v)))))
    closed_stand r (to_literal x k v px pa l) =
        subst (λ (y : Slot). AllStand later (missed C G.cells (λ z. y) (Closed r)) (flat_map (wanted C t) (inputs_at C p (Closed r)))) (sym px)
        (subst (λ (a : Place). AllStand later [] (flat_map (wanted C t) (whole_input a))) (sym pa) tt)

    key_stand : (a : Name) (k : Key) → is_array_name a ≡ true → Resolved C later (f a) (place_at C p a) → Stand (AtKey a k)
    key_stand a k ar (to_datum d q v px pa i) =
        subst (λ (x : Slot). AllStand later (missed C G.cells (λ y. x) (AtKey a k)) (flat_map (wanted C t) (inputs_at C p (AtKey a k)))) (sym px)
        (subst (λ (y : Place). AllStand later (element_wanted (cell_element k (slot_at G.cells d)) (is_shut (slot_at G.cells d)) d (hash_of k)) (flat_map (wanted C t) (key_input y k))) (sym pa)
        (element_at d q v k i (scalar_place C p a q v true ar pa)))
    key_stand a k ar (to_literal x m v px pa l) =
        subst (λ (y : Slot). AllStand later (missed C G.cells (λ z. y) (AtKey a k)) (flat_map (wanted C t) (inputs_at C p (AtKey a k)))) (sym px)
        (subst (λ (y : Place). AllStand later [] (flat_map (wanted C t) (key_input y k))) (sym pa) tt)

    index_stand : (d : ℕ) (q : List Step) (v : Variable) → In (d, Datum q v) later → v.array ≡ true → (r : Name) → is_array_name r ≡ false → Resolved C later (f r) (place_at C p r) → AllStand later (index_missed C G.cells d (f r)) (flat_map (wanted C t) (element_input (Datum q v) (place_at C p r)))
    index_stand d q v i ar r na (to_datum x z u px pa g) =
        let told = scalar_told C I L es F w n t G P x z u g (scalar_place C p r z u false na pa) in
        subst (λ (y : Slot). AllStand later (index_missed C G.cells d y) (flat_map (wanted C t) (element_input (Datum q v) (place_at C p r)))) (sym px)
        (subst (λ (a : Place). AllStand later (index_missed C G.cells d (DatumOf x)) (flat_map (wanted C t) (element_input (Datum q v) a))) (sym pa)
        (subst (λ (o : Option Scalar). AllStand later (indexed_missed G.cells d x o) (keyed_wanted C t (Datum q v) (Datum z u) (value_at (code_system C) code_tests t.stored (Datum z u) only) ++ [])) (sym told)
        (by (value_at (code_system C) code_tests t.stored (Datum z u) only))))
      where
        by : (o : Option Scalar) → AllStand later (indexed_missed G.cells d x o) (keyed_wanted C t (Datum q v) (Datum z u) o ++ [])
        by None = (g, tt)
        by (Some y) = element_at d q v (key_of y) i ar
    index_stand d q v i ar r na (to_literal x m u px pa l) =
        subst (λ (y : Slot). AllStand later (index_missed C G.cells d y) (flat_map (wanted C t) (element_input (Datum q v) (place_at C p r)))) (sym px)
        (subst (λ (a : Place). AllStand later (index_missed C G.cells d (LiteralOf x m)) (flat_map (wanted C t) (element_input (Datum q v) a))) (sym pa)
        (subst (λ (o : Option Scalar). AllStand later (literal_missed G.cells d o) (flat_map (wanted C t) (key_input (Datum q v) (key_of u)))) (sym l)
        (element_at d q v (key_of u) i ar)))

    at_stand : (a r : Name) → is_array_name a ≡ true → is_array_name r ≡ false → Resolved C later (f a) (place_at C p a) → Resolved C later (f r) (place_at C p r) → Stand (At a r)
    at_stand a r ar na (to_datum d q v px pa i) h =
        subst (λ (x : Slot). AllStand later (at_missed C G.cells x (f r)) (flat_map (wanted C t) (inputs_at C p (At a r)))) (sym px)
        (subst (λ (y : Place). AllStand later (index_missed C G.cells d (f r)) (flat_map (wanted C t) (element_input y (place_at C p r)))) (sym pa)
        (index_stand d q v i (scalar_place C p a q v true ar pa) r na h))
    at_stand a r ar na (to_literal x m v px pa l) h =
        subst (λ (y : Slot). AllStand later (at_missed C G.cells y (f r)) (flat_map (wanted C t) (inputs_at C p (At a r)))) (sym px)
        (subst (λ (y : Place). AllStand later [] (flat_map (wanted C t) (element_input y (place_at C p r)))) (sym pa)
        (subst (λ (y : List (Input Place Key)). AllStand later [] (flat_map (wanted C t) y)) (sym (no_element_input v (place_at C p r))) tt))

    need_stand : (m : Need) → In m (entry C e).needs → Stand m
    need_stand (Stored r) i = stored_stand r (not-true (is_array_name r) (kinds (Stored r) i)) (res r (I.needs e (Stored r) r i (inl refl)))
      where
        kinds : (m : Need) → In m (entry C e).needs → fits_kinds m ≡ true
        kinds m i = every_in fits_kinds (entry C e).needs (and_parts (list_all fits_kinds (entry C e).needs) _ (I.shape e)).0 m i
    need_stand (Closed r) i = closed_stand r (res r (I.needs e (Closed r) r i (inl refl)))
    need_stand (At a r) i =
        let k = and_parts (is_array_name a) (not (is_array_name r)) (every_in fits_kinds (entry C e).needs (and_parts (list_all fits_kinds (entry C e).needs) _ (I.shape e)).0 (At a r) i) in
        at_stand a r k.0 (not-true (is_array_name r) k.1) (res a (I.needs e (At a r) a i (inl refl))) (res r (I.needs e (At a r) r i (inr (inl refl))))
    need_stand (AtKey a k) i =
        key_stand a k (every_in fits_kinds (entry C e).needs (and_parts (list_all fits_kinds (entry C e).needs) _ (I.shape e)).0 (AtKey a k) i) (res a (I.needs e (AtKey a k) a i (inl refl)))

    pub needs_stand : (ns : List Need) → ((m : Need) → In m ns → In m (entry C e).needs) → AllStand later (flat_map (missed C G.cells f) ns) (flat_map (wanted C t) (flat_map (inputs_at C p) ns))
    needs_stand [] inn = tt
    needs_stand (m ∷ ns) inn =
        subst (λ (l : List (Want Place)). AllStand later (missed C G.cells f m ++ flat_map (missed C G.cells f) ns) l) (sym (flat_map-append (wanted C t) (inputs_at C p m) (flat_map (inputs_at C p) ns)))
        (stand_append later (missed C G.cells f m) (flat_map (missed C G.cells f) ns) (flat_map (wanted C t) (inputs_at C p m)) (flat_map (wanted C t) (flat_map (inputs_at C p) ns)) (need_stand m (inn m (inl refl))) (needs_stand ns (λ x i. inn x (inr i))))
