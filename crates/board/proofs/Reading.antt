-- What the names of an item stand for, and what its inputs see there.
use Rattle.std.proofs.Common.{◌≡◌, inl, inr, ℕ, Bool, true, false, List, [], ◌∷◌, map, refl, sym, ap, subst, Option, None, Some}
use Rattle.dataflow.specs.System.{Answer, Effect, Good, In, ClosedArray, StoredScalar, Opening}
use Rattle.dataflow.specs.Facts.{Made}
use Rattle.dataflow.specs.History.{log_of}
use Rattle.dataflow.specs.Log.{Logged}
use Rattle.dataflow.specs.Machine.{Event, Holds, IsElementKnown, IsKnown, Run, Sees, SeesElement}
use Rattle.dataflow.proofs.Follows.{Follows}
use Rattle.dataflow.proofs.Lists.{in_map, in_split, in_unmap}
use Rattle.dataflow.proofs.Runs.{run_settled}
use Rattle.dataflow.proofs.Settled.{Settled, can_of_comes}
use Rattle.dataflow.proofs.Steps.{run_follows}
use Rattle.board_history.specs.Elements.{code_tests}
use Rattle.board_history.specs.Fields as Fields
use Rattle.board_history.specs.Fields.{Counted, DatumOf, Does, Frame, Holding, Layout, LiteralOf, Mapping, Over, Row, Slot, Unset, path_of, row_of, slot_at, slot_for, task_of}
use Rattle.board_history.specs.Needs.{cell_element, cell_value, elements_in, found}
use Rattle.board_history.specs.Stands.{CellStands, ContentStands, SlotStands, Stands}
use Rattle.board_history.specs.Static.{opened, rests}
use Rattle.board_history.proofs.Counts.{made_to_read}
use Rattle.board_history.proofs.Elements.{code_told}
use Rattle.board_history.proofs.Ended.{opens_is}
use Rattle.board_history.proofs.EndedBase.{rests_none}
use Rattle.board_history.proofs.EndedNames.{Resolved, in_data, to_datum, to_literal}
use Rattle.board_history.proofs.Replays.{run_replayed}
use Rattle.board_history.proofs.Tests.{choose, none_some, some_same, yes_no}
use Rattle.task_code.proofs.Kept.{code_laws}
use Rattle.task_code.specs.Code.{Code, Name, body, entry}
use Rattle.task_code.specs.Compute.{Elements, in_key_order}
use Rattle.task_code.specs.Effects.{Item, Task, block, only}
use Rattle.task_code.specs.Machine.{CodeItem}
use Rattle.task_code.specs.Places.{Constant, Datum, Nowhere, Place, Step, place_at}
use Rattle.task_code.specs.System.{code_system, data_among, task_reads}
use Rattle.task_code.specs.Whole.{IsCode}
use Rattle.values.proofs.Keys.{same_key-eq, same_key-refl}
use Rattle.values.specs.Keys.{same_key}
use Rattle.values.specs.declared.key.Key.{Key}
use Rattle.values.specs.declared.value.Scalar.{Scalar}
use Rattle.board_data.specs.Answered.{cell_answer, scalar_answer}
use Rattle.task_code.specs.Code.{Variable}

not_nowhere : {B : Type 0} {q : List Step} {w : Variable} → Nowhere ≡ Datum q w → B
not_nowhere h = absurd (cc)

no_array : {A : Type 0} → false ≡ true → A
no_array h = absurd (cc)

no_scalar : {A : Type 0} → true ≡ false → A
no_scalar h = absurd (cc)

in_nowhere : (ds : List Place) → In Nowhere ds → In Nowhere (data_among ds)
in_nowhere [] h = absurd h
in_nowhere (Datum p w ∷ ds) h = elim h [ inl e ↦ inl e | inr g ↦ inr (in_nowhere ds g) ]
in_nowhere (Constant c ∷ ds) h = elim h [ inl e ↦ absurd (cc (e)) | inr g ↦ in_nowhere ds g ]
in_nowhere (Nowhere ∷ ds) h = inl refl

datum_made : (C : Code) (I : IsCode C) (u : Task) (xs : List (Answer Key Scalar)) (e : Effect Task Place Key Scalar) → (code_system C).effect u xs ≡ Good e → (p : Opening Task Place) (a : Place) → In p e.opens → In a p.makes → (q : List Step) × (v : Variable) × (a ≡ Datum q v)
datum_made C I u xs e h p a i m =
    let y = opens_is C u xs e h in
    elim (in_split p (map (block C) (opened C u y.0)) (rests C u y.0) (subst (λ (l : List (Opening Task Place)). In p l) y.1 i)) [
      | inl g ↦ (let b = in_unmap (block C) p (opened C u y.0) g in
          let v = in_unmap (Datum b.0.1) a (body C b.0.0).makes (subst (λ (z : Opening Task Place). In a z.makes) (sym b.2) m) in
          (b.0.1, v.0, sym v.2))
      | inr g ↦ absurd (subst (λ (l : List Place). In a l) (rests_none C u y.0 p g) m)
    ]

-- an element that is found
pub found_in : (k : Key) (xs : Elements) (v : Scalar) → found k xs ≡ Some v → In (k, v) xs
found_in k [] v = λ h. none_some h
found_in k (x ∷ xs) v =
    choose (λ (r : Option Scalar). r ≡ Some v → In (k, v) (x ∷ xs)) (same_key k x.0) (Some x.1) (found k xs)
    (λ t h. let e = same_key-eq k x.0 t in let u = some_same h in inl (λ i. (e i, sym u i)))
    (λ t h. inr (found_in k xs v h))

pub in_found : (k : Key) (xs : Elements) (v : Scalar) → In (k, v) xs → found k xs ≡ None → ⊥
in_found k [] v i = λ h. i
in_found k (x ∷ xs) v i =
    choose (λ (r : Option Scalar). r ≡ None → ⊥) (same_key k x.0) (Some x.1) (found k xs)
    (λ t h. none_some (sym h))
    (λ t h. elim i [ inl p ↦ yes_no (subst (λ (l : Key). same_key k l ≡ true) (ap (λ (z : Key × Scalar). z.0) p) (same_key-refl k)) t | inr g ↦ in_found k xs v g h ])

module _ (C : Code) (I : IsCode C) (L : Layout) (es : List Event) (F : Fields.Fields) (x : Stands C L es F) where
  pub run : Run (code_system C) es x.state
  run = (run_replayed (code_system C) code_tests (code_told C) (code_laws C I) es x.state x.reached).0

  abbrev pub log : List (Task × Effect Task Place Key Scalar)
  log = log_of (code_system C) es x.state run

  pub follows : Follows (code_system C) x.state log
  follows = run_follows (code_system C) (code_laws C I) es x.state run

  settled : Settled (code_system C) (Logged (code_system C) log)
  settled = (run_settled (code_system C) (code_laws C I) follows.run).0

  read_there : (i : CodeItem) → In i x.state.items → (a : Place) → In a (task_reads C i.task) → In a x.state.places
  read_there i h a m =
      follows.store.data_all a i.task (made_to_read (code_system C) code_tests (code_told C) (code_laws C I) (λ b k. k) (Logged (code_system C) log) settled a (follows.items.waits i h).live m) (follows.items.waits i h) (inl m)

  datum_only : (a : Place) → In a x.state.places → (q : List Step) × (v : Variable) × (a ≡ Datum q v)
  datum_only a h =
      let m : Made (code_system C) (Logged (code_system C) log) a = follows.store.data_in a h in
      let c = can_of_comes (code_system C) (code_laws C I) (Logged (code_system C) log) settled (settled.comes m.task m.effect m.fact) in
      datum_made C I m.task c.answers m.effect c.is m.opening a m.opens m.makes

  -- a name that an item may read stands for a datum or a literal
  pub resolved : (i : CodeItem) → In i x.state.items → (n k e c : ℕ) (r : Row) (f : Frame) → i.task ≡ Item e (path_of F.frames k) c → row_of F.rows n ≡ Some r → r.job ≡ Does k e c → (r.status ≡ Over → ⊥) → slot_at F.frames k ≡ Some f → (y : Name) → In y (entry C e).reads → Resolved C x.names (slot_for L F.frames k f.body y) (place_at C (path_of F.frames k) y)
  resolved i there n k e c r f task h q live fr y iy = by (place_at C (path_of F.frames k) y) refl (x.frames.reads n k e c r f h q live fr y iy)
    where
      right : (a : Place) → In a (task_reads C (Item e (path_of F.frames k) c)) → In a x.state.places
      right a g = read_there i there a (subst (λ (u : Task). In a (task_reads C u)) (sym task) g)

      among : (a : Place) → place_at C (path_of F.frames k) y ≡ a → In a (map (place_at C (path_of F.frames k)) (entry C e).reads)
      among a z = subst (λ (b : Place). In b (map (place_at C (path_of F.frames k)) (entry C e).reads)) z (in_map (place_at C (path_of F.frames k)) y (entry C e).reads iy)

      by : (a : Place) → place_at C (path_of F.frames k) y ≡ a → SlotStands C x.state x.names (slot_for L F.frames k f.body y) a → Resolved C x.names (slot_for L F.frames k f.body y) (place_at C (path_of F.frames k) y)
      by (Datum p v) z g =
          let s = g (right (Datum p v) (in_data p v (map (place_at C (path_of F.frames k)) (entry C e).reads) (among (Datum p v) z))) in
          to_datum s.0 p v s.1 z s.2
      by (Constant v) z g = to_literal g.0 g.1 v g.2 z g.3
      by Nowhere z g =
          let d = datum_only Nowhere (right Nowhere (in_nowhere (map (place_at C (path_of F.frames k)) (entry C e).reads) (among Nowhere z))) in
          not_nowhere d.2

  -- what is seen of a datum that has this key
  module _ (order : (d : ℕ) (c : Counted) (ys : Elements) → slot_at F.cells d ≡ Some c → c.content ≡ Mapping ys → in_key_order ys ≡ true) (d : ℕ) (q : List Step) (v : Variable) (h : In (d, Datum q v) x.names) where
    cell : (c : Counted) × (slot_at F.cells d ≡ Some c) × CellStands C x.state (Datum q v) c
    cell = x.data_stand.there d (Datum q v) h

    pub scalar_seen : v.array ≡ false → IsKnown (code_system C) x.state (StoredScalar (Datum q v)) → (u : Scalar) × (cell_value (slot_at F.cells d) ≡ Some u) × Holds (code_system C) x.state (Datum q v) only u
    scalar_seen na known = by cell.0.content v.array na cell.2.content (ap cell_value cell.1)
      where
        by : (c : Fields.Content) (b : Bool) → b ≡ false → ContentStands C x.state (Datum q v) b c → cell_value (slot_at F.cells d) ≡ Rattle.board_history.specs.Needs.value_in c → (u : Scalar) × (cell_value (slot_at F.cells d) ≡ Some u) × Holds (code_system C) x.state (Datum q v) only u
        by Unset false e st g = absurd (st known.0 known.1)
        by Unset true e st g = absurd st
        by (Holding u) false e st g = (u, g, st)
        by (Holding u) true e st g = absurd st
        by (Mapping ys) false e st g = absurd st
        by (Mapping ys) true e st g = no_scalar e

    pub array_seen : v.array ≡ true → IsKnown (code_system C) x.state (ClosedArray (Datum q v)) → Sees (code_system C) x.state (ClosedArray (Datum q v)) (cell_answer (slot_at F.cells d))
    array_seen na known = subst (λ (y : Answer Key Scalar). Sees (code_system C) x.state (ClosedArray (Datum q v)) y) (sym (ap cell_answer cell.1)) (by cell.0.content v.array na cell.2.content refl)
      where
        by : (c : Fields.Content) (b : Bool) → b ≡ true → ContentStands C x.state (Datum q v) b c → cell.0.content ≡ c → Sees (code_system C) x.state (ClosedArray (Datum q v)) (cell_answer (Some (record { reads = cell.0.reads; writes = cell.0.writes; content = c })))
        by Unset true e st g = absurd st
        by Unset false e st g = no_array e
        by (Holding u) true e st g = absurd st
        by (Holding u) false e st g = no_array e
        by (Mapping ys) false e st g = absurd st
        by (Mapping ys) true e st g = (ys, record { closed = known; in_order = order d cell.0 ys cell.1 g; all = st.0; only = st.1 }, refl)

    pub element_seen : v.array ≡ true → (k : Key) → IsElementKnown (code_system C) x.state (Datum q v) k → SeesElement (code_system C) x.state (Datum q v) k (scalar_answer (cell_element k (slot_at F.cells d)))
    element_seen na k known = subst (λ (y : Option Scalar). SeesElement (code_system C) x.state (Datum q v) k (scalar_answer y)) (sym (ap (cell_element k) cell.1)) (by cell.0.content v.array na cell.2.content)
      where
        at : (ys : Elements) → ContentStands C x.state (Datum q v) true (Mapping ys) → (o : Option Scalar) → found k ys ≡ o → SeesElement (code_system C) x.state (Datum q v) k (scalar_answer o)
        at ys st (Some u) g = st.1 k u (found_in k ys u g)
        at ys st None g =
            record {
              closed = elim known [ inl y ↦ absurd (in_found k ys y.0 (st.0 k y.0 y.1) g) | inr c ↦ c ];
              none = λ u m. in_found k ys u (st.0 k u m) g;
            }

        by : (c : Fields.Content) (b : Bool) → b ≡ true → ContentStands C x.state (Datum q v) b c → SeesElement (code_system C) x.state (Datum q v) k (scalar_answer (found k (elements_in c)))
        by Unset true e st = absurd st
        by Unset false e st = no_array e
        by (Holding u) true e st = absurd st
        by (Holding u) false e st = no_array e
        by (Mapping ys) false e st = absurd st
        by (Mapping ys) true e st = at ys st (found k ys) refl
