-- What the effect of an item that ends tells of the next state.
use Rattle.std.proofs.Common.{◌≡◌, inl, inr, ℕ, zero, suc, Bool, true, false, List, [], ◌∷◌, ◌++◌, map, refl, sym, ap, ◌∙◌, subst, Option, None, Some, arith}
use Rattle.std.specs.Prelude.{Err, Ok, Result, if◌then◌else◌, not}
use Rattle.std.proofs.lemmas.Bool.{cases_Bool, not-true, and_parts}
use Rattle.dataflow.specs.System.{Answer, Bad, Effect, Good, In, Opening, Outcome}
use Rattle.dataflow.specs.History.{log_of}
use Rattle.dataflow.specs.Log.{Logged}
use Rattle.dataflow.specs.Machine.{After, Clashes, ClosedByRights, ElementTwice, End, Ends, Event, Fault, Holds, OfTask, Run, SeesAll}
use Rattle.dataflow.specs.Facts.{Made}
use Rattle.dataflow.proofs.Follows.{Follows}
use Rattle.dataflow.proofs.Known.{answers_are_one}
use Rattle.dataflow.proofs.Lists.{in_map, in_split, in_unmap, seam_here}
use Rattle.dataflow.proofs.Runs.{run_settled}
use Rattle.dataflow.proofs.Settled.{Settled, can_of_comes}
use Rattle.dataflow.proofs.Steps.{run_follows}
use Rattle.board_history.specs.CodeReplay.{and_then, next_state, replayed}
use Rattle.board_history.specs.Elements.{code_tests}
use Rattle.board_history.specs.Ending.{job_slot, slot_is, stored_values}
use Rattle.board_history.specs.Fields.{Absent, Content as Contents, DatumOf, Does, Fields, Frame, Holding, Job, Mapping, Over, Row, Script, Unset, path_of, row_of, slot_at, slot_for, task_of}
use Rattle.board_history.specs.Needs.{cell_element, elements_in, found}
use Rattle.board_history.specs.Stands.{ContentStands, SlotStands, Stands}
use Rattle.board_history.specs.Static.{computed_by, opened, rests}
use Rattle.board_history.proofs.Counts.{made_to_write}
use Rattle.board_history.proofs.Elements.{code_told}
use Rattle.board_history.proofs.Ended.{opens_is, outcome_is}
use Rattle.board_history.proofs.EndedBase.{rests_none}
use Rattle.board_history.proofs.EndedNames.{in_flat, flat_in}
use Rattle.board_history.proofs.EndedStores.{Stored, binds, bound_is, into, stores_told, target_stored}
use Rattle.board_history.proofs.Marking.{RowIs, row_found}
use Rattle.board_history.proofs.Next.{nat_same, nat_sound}
use Rattle.board_history.proofs.Replays.{replayed_then, run_next, run_replayed}
use Rattle.board_history.proofs.Tests.{none_some, some_same}
use Rattle.task_code.proofs.Kept.{code_laws}
use Rattle.task_code.proofs.Rights.{stored_target}
use Rattle.task_code.specs.Code.{Act, Argument, Assert, Call, Cell, Code, Copy, Each, Fill, Fixed, If, Local, Need, Print, InsertElement, Range, Read, Set, Wait, Name, Named, Owned, Parameter, argument, arguments, body, call_at, entry, is_array_name, is_array_owned, stored_of}
use Rattle.task_code.specs.Compute.{Computed, Elements, EntryFault, Fails, Gives, Inserts, Opens, Takes, Turns, compute, eval, evals, filled, insert_element}
use Rattle.task_code.specs.Effects.{Item, Main, Task, block, effect_at, instances, is_too_deep}
use Rattle.task_code.specs.Machine.{CodeItem, CodeState, CodeStep}
use Rattle.task_code.specs.Places.{Constant, Datum, Nowhere, Place, Step, place_array, place_at, resolve}
use Rattle.task_code.proofs.Places.{argument_kind, spot_variable}
use Rattle.values.proofs.Keys.{same_key-eq, same_key-refl}
use Rattle.values.specs.Keys.{same_key}
use Rattle.task_code.specs.Code.{Variable}
use Rattle.task_code.specs.System.{answered, code_system, task_effect, task_inputs, task_writes}
use Rattle.task_code.specs.Whole.{IsCode}
use Rattle.values.specs.declared.key.Key.{Key}
use Rattle.values.specs.declared.value.Scalar.{Scalar}
use Rattle.board_program.specs.Spots.{layout_of}
use Rattle.task_code.specs.Shape.{has_shape}
use Rattle.values.specs.Operators.{evaluated, literal}
use Rattle.values.specs.declared.fault.OpFault.{OpFault}
use Rattle.values.specs.declared.value.Value.{Value}
use Rattle.board_effects.specs.declared.effect.Effect.{Effect as ProgramEffect}
use Rattle.board_effects.specs.declared.effect.Effect.TheVariants as To
use Rattle.board_effects.specs.Effects.{GoesWell, GoesWrong, IsEffect, fault_of, kind_of_fault, outcome_for}
use Rattle.board_effects.specs.Effects as mine

-- what comes of a task is told by what it computes
told : (C : Code) (u : Task) (xs : List (Answer Key Scalar)) → task_effect C u xs ≡ outcome_for C u (computed_by C u xs)
told C Main xs = refl
told C (Item i p c) xs = refl

-- what is made is a datum
datum_made : (C : Code) (I : IsCode C) (u : Task) (xs : List (Answer Key Scalar)) (e : Effect Task Place Key Scalar) → (code_system C).effect u xs ≡ Good e → (p : Opening Task Place) (a : Place) → In p e.opens → In a p.makes → (q : List Step) × (v : Variable) × (a ≡ Datum q v)
datum_made C I u xs e h p a i m =
    let y = opens_is C u xs e h in
    elim (in_split p (map (block C) (opened C u y.0)) (rests C u y.0) (subst (λ (l : List (Opening Task Place)). In p l) y.1 i)) [
      | inl g ↦ (let b = in_unmap (block C) p (opened C u y.0) g in
          let v = in_unmap (Datum b.0.1) a (body C b.0.0).makes (subst (λ (z : Opening Task Place). In a z.makes) (sym b.2) m) in
          (b.0.1, v.0, sym v.2))
      | inr g ↦ absurd (subst (λ (l : List Place). In a l) (rests_none C u y.0 p g) m)
    ]

pub not_nowhere : {B : Type 0} {q : List Step} {v : Variable} → Nowhere ≡ Datum q v → B
not_nowhere h = absurd (cc)

pub not_constant : {B : Type 0} {c : Scalar} {q : List Step} {v : Variable} → Constant c ≡ Datum q v → B
not_constant h = absurd (cc)

-- a scalar's name is of a scalar
pub scalar_place : (C : Code) (p : List Step) (up : ℕ) (o : Owned) (q : List Step) (v : Variable) → is_array_owned o ≡ false → resolve C p up o ≡ Datum q v → v.array ≡ false
scalar_place C [] zero (Local u) q v h e = ap (λ (y : Variable). y.array) (sym (spot_variable e)) ∙ h
scalar_place C [] zero (Parameter k b) q v h e = not_nowhere e
scalar_place C [] (suc up) o q v h e = not_nowhere e
scalar_place C (z ∷ p) zero (Local u) q v h e = ap (λ (y : Variable). y.array) (sym (spot_variable e)) ∙ h
scalar_place C (z ∷ p) zero (Parameter k b) q v h e = by (λ r g i. scalar_place C p r.up r.owned q v g i) (argument C z.offset k b) refl e
  where
    by : ((r : Name) → is_array_owned r.owned ≡ false → resolve C p r.up r.owned ≡ Datum q v → v.array ≡ false) → (o : Option Argument) → argument C z.offset k b ≡ o → (elim o [ None ↦ Nowhere | Some a ↦ elim a [ Named r ↦ resolve C p r.up r.owned | Fixed c ↦ Constant c ] ]) ≡ Datum q v → v.array ≡ false
    by f None g i = not_nowhere i
    by f (Some (Fixed c)) g i = not_constant i
    by f (Some (Named r)) g i = f r (argument_kind (arguments (entry C (call_at C z.offset)).act) k b r g ∙ h) i
scalar_place C (z ∷ p) (suc up) o q v h e = scalar_place C p up o q v h e

-- elements by their keys
found_in : (k : Key) (ys : Elements) (v : Scalar) → found k ys ≡ Some v → In (k, v) ys
found_in k [] v h = none_some h
found_in k (y ∷ ys) v h = elim (cases_Bool (same_key k y.0)) [
  | inl e ↦ (let z : y.1 ≡ v = some_same (sym (ap (λ b. if b then Some y.1 else found k ys) e) ∙ h) in inl (λ i. (same_key-eq k y.0 e i, sym z i)))
  | inr e ↦ inr (found_in k ys v (sym (ap (λ b. if b then Some y.1 else found k ys) e) ∙ h))
]

in_found : (k : Key) (ys : Elements) (v : Scalar) → In (k, v) ys → (u : Scalar) × (found k ys ≡ Some u)
in_found k [] v i = absurd i
in_found k (y ∷ ys) v i = elim (cases_Bool (same_key k y.0)) [
  | inl e ↦ (y.1, ap (λ b. if b then Some y.1 else found k ys) e)
  | inr e ↦ elim i [
    | inl q ↦ absurd (cc (sym e ∙ sym (ap (λ (z : Key × Scalar). same_key k z.0) q) ∙ same_key-refl k))
    | inr g ↦ (let r = in_found k ys v g in (r.0, ap (λ b. if b then Some y.1 else found k ys) e ∙ r.1))
  ]
]

-- what is stored as a scalar has a scalar's name
pub no_fill : {B : Type 0} (r : Result Value OpFault) (v : Scalar) → filled r ≡ Gives v → B
no_fill (Ok u) v h = absurd (cc h)
no_fill (Err f) v h = absurd (cc h)

no_put : {B : Type 0} (p q : Result Value OpFault) (v : Scalar) → insert_element p q ≡ Gives v → B
no_put (Err f) q v h = absurd (cc h)
no_put (Ok i) (Err f) v h = absurd (cc h)
no_put (Ok i) (Ok u) v h = absurd (cc h)

pub scalar_target : (a : Act) (ns : List Need) (node : ℕ) (xs : List (Answer Key Scalar)) (r : Name) (v : Scalar) → has_shape a ns ≡ true → In r (stored_of node a) → compute a xs ≡ Gives v → is_array_name r ≡ false
scalar_target (Cell e) ns node xs r v sh i g = elim i [ inl p ↦ ap is_array_name p | inr z ↦ absurd z ]
scalar_target Read ns node xs r v sh i g = elim i [ inl p ↦ ap is_array_name p | inr z ↦ absurd z ]
scalar_target (Call b rs os) ns node xs r v sh i g = absurd i
scalar_target (Set q e) ns node xs r v sh i g = elim i [ inl p ↦ ap is_array_name p ∙ not-true (is_array_name q) (and_parts _ _ sh).0 | inr z ↦ absurd z ]
scalar_target (Fill q es) ns node xs r v sh i g = no_fill (evaluated literal (evals xs es)) v g
scalar_target (Copy q) ns node xs r v sh i g = absurd (cc g)
scalar_target (InsertElement q k e) ns node xs r v sh i g = no_put (eval xs k) (eval xs e) v g
scalar_target (Print e) ns node xs r v sh i g = absurd i
scalar_target (Assert e) ns node xs r v sh i g = absurd i
scalar_target (If e b d) ns node xs r v sh i g = absurd i
scalar_target (Range lo hi st w) ns node xs r v sh i g = absurd i
scalar_target (Each w) ns node xs r v sh i g = absurd i
scalar_target (Wait hs b) ns node xs r v sh i g = absurd i

if_in : {X : Type 0} (z : X) (b : Bool) (ys : List X) → In z (if b then ys else []) → (b ≡ true) × In z ys
if_in z true ys h = (refl, h)
if_in z false ys h = absurd h

in_if : {X : Type 0} (z : X) (b : Bool) (ys : List X) → b ≡ true → In z ys → In z (if b then ys else [])
in_if z true ys e h = h
in_if z false ys e h = absurd (cc e)

-- what is found is held by an array
holds_by : (C : Code) (s : CodeState) (a : Place) (k : Key) (u : Scalar) (ct : Contents) (b : Bool) → ContentStands C s a b ct → found k (elements_in ct) ≡ Some u → (b ≡ true) × Holds (code_system C) s a k u
holds_by C s a k u Unset b st h = none_some h
holds_by C s a k u (Holding v) b st h = none_some h
holds_by C s a k u (Mapping ys) true st h = (refl, st.1 k u (found_in k ys u h))
holds_by C s a k u (Mapping ys) false st h = absurd st

held_found : (C : Code) (s : CodeState) (a : Place) (k : Key) (u : Scalar) (ct : Contents) (b : Bool) → b ≡ true → ContentStands C s a b ct → Holds (code_system C) s a k u → (v : Scalar) × (found k (elements_in ct) ≡ Some v)
held_found C s a k u ct false e st h = absurd (cc e)
held_found C s a k u Unset true e st h = absurd st
held_found C s a k u (Holding v) true e st h = absurd st
held_found C s a k u (Mapping ys) true e st h = in_found k ys u (st.0 k u h)

module _ (C : Code) (I : IsCode C) (es : List Event) (F : Fields) (x : Stands C (layout_of C) es F) (w n : ℕ) (t : CodeState) (reached : replayed C (es ++ End w n ∷ []) ≡ Some t) (row : Row) (row_is : row_of F.rows n ≡ Some row) (xs : List (Answer Key Scalar)) (known : SeesAll (code_system C) x.state (task_inputs C (task_of F.frames row.job)) xs) where
  abbrev s : CodeState
  s = x.state

  abbrev task : Task
  task = task_of F.frames row.job

  abbrev computed : Computed
  computed = computed_by C task xs

  run : Run (code_system C) es s
  run = (run_replayed (code_system C) code_tests (code_told C) (code_laws C I) es s x.reached).0

  next : next_state C s (End w n) ≡ Some t
  next = ap (λ (r : Option CodeState). and_then C r (End w n)) (sym x.reached) ∙ sym (replayed_then (code_system C) code_tests es (End w n)) ∙ reached

  step : CodeStep C s (End w n) t
  step = (run_next (code_system C) code_tests (code_told C) (code_laws C I) es s run (End w n) t next).0

  abbrev log : List (Task × Effect Task Place Key Scalar)
  log = log_of (code_system C) es s run

  follows : Follows (code_system C) s log
  follows = run_follows (code_system C) (code_laws C I) es s run

  abbrev ends : Ends (code_system C) s w n t
  ends = step.1

  -- the item is the row's
  here : In ends.item s.items
  here = subst (λ (is : List CodeItem). In ends.item is) (sym ends.at.items) (seam_here ends.item ends.before ends.after)

  of_row : RowIs F.frames F.rows 1 ends.item
  of_row = row_found F.frames 1 F.rows ends.item (subst (λ (is : List CodeItem). In ends.item is) (sym x.items.items) here)

  own_row : of_row.row ≡ row
  own_row =
      let a = of_row.number_is in
      let b = ends.at.number_is in
      let at : suc of_row.at ≡ n = omega arith in
      some_same (sym of_row.there ∙ subst (λ (m : ℕ). row_of F.rows m ≡ Some row) (sym at) row_is)

  own_task : ends.item.task ≡ task
  own_task = of_row.task_is ∙ ap (λ (r : Row). task_of F.frames r.job) own_row

  live : row.status ≡ Over → ⊥
  live h = of_row.not_over (ap (λ (r : Row). r.status) own_row ∙ h)

  same_answers : ends.answers ≡ xs
  same_answers = (answers_are_one (code_system C) (code_laws C I) s log follows).one ends.item here ends.answers xs ends.known (subst (λ (u : Task). SeesAll (code_system C) s (task_inputs C u) xs) (sym own_task) known)

  after : After (code_system C) s task (ends.before ++ ends.after) (outcome_for C task computed) t
  after =
      subst (λ (o : Outcome Task Place Key Scalar EntryFault). After (code_system C) s task (ends.before ++ ends.after) o t) (told C task xs)
      (subst (λ (u : Task). After (code_system C) s u (ends.before ++ ends.after) ((code_system C).effect u xs) t) own_task
      (subst (λ (ys : List (Answer Key Scalar)). After (code_system C) s ends.item.task (ends.before ++ ends.after) ((code_system C).effect ends.item.task ys) t) same_answers ends.result))

  -- the fault of the next state
  pub bad : (f : EntryFault) → outcome_for C task computed ≡ Bad f → t.fault ≡ Some (task, OfTask f)
  bad f e = (subst (λ (o : Outcome Task Place Key Scalar EntryFault). After (code_system C) s task (ends.before ++ ends.after) o t) e after).fault

  pub twice : (e : Effect Task Place Key Scalar) → outcome_for C task computed ≡ Good e → Clashes (code_system C) s e → t.fault ≡ Some (task, ElementTwice)
  twice e g k = elim (subst (λ (o : Outcome Task Place Key Scalar EntryFault). After (code_system C) s task (ends.before ++ ends.after) o t) g after) [ inl p ↦ p.1.fault | inr p ↦ absurd (p.0 k) ]

  pub well : (e : Effect Task Place Key Scalar) → outcome_for C task computed ≡ Good e → (Clashes (code_system C) s e → ⊥) → t.fault ≡ None
  well e g no_clash = elim (subst (λ (o : Outcome Task Place Key Scalar EntryFault). After (code_system C) s task (ends.before ++ ends.after) o t) g after) [ inl p ↦ absurd (no_clash p.0) | inr p ↦ p.1.fault ]

  settled : Settled (code_system C) (Logged (code_system C) log)
  settled = (run_settled (code_system C) (code_laws C I) follows.run).0

  -- a datum that is there has a path and a variable
  datum_only : (a : Place) → In a s.places → (q : List Step) × (v : Variable) × (a ≡ Datum q v)
  datum_only a h =
      let m : Made (code_system C) (Logged (code_system C) log) a = follows.store.data_in a h in
      let c = can_of_comes (code_system C) (code_laws C I) (Logged (code_system C) log) settled (settled.comes m.task m.effect m.fact) in
      datum_made C I m.task c.answers m.effect c.is m.opening a m.opens m.makes

  write_there : (a : Place) → In a (task_writes C task) → In a s.places
  write_there a m =
      let g = subst (λ (u : Task). In a (task_writes C u)) (sym own_task) m in
      follows.store.data_all a ends.item.task (made_to_write (code_system C) code_tests (code_told C) (code_laws C I) (Logged (code_system C) log) settled a (follows.items.waits ends.item here).live g) (follows.items.waits ends.item here) (inr g)

  -- a name that it writes stands for a datum that is there
  module _ (k e c : ℕ) (is : row.job ≡ Does k e c) where
    own_frame : (f : Frame) × (slot_at F.frames k ≡ Some f) × In e (body C f.body).entries
    own_frame = x.frames.there n k e c row row_is is live

    own_right : (r : Name) → In r (entry C e).writes → In (place_at C (path_of F.frames k) r) (task_writes C task)
    own_right r m = subst (λ (j : Job). In (place_at C (path_of F.frames k) r) (task_writes C (task_of F.frames j))) (sym is) (in_map (place_at C (path_of F.frames k)) r (entry C e).writes m)

    -- so an array is not closed
    pub not_closed : (r : Name) → In r (entry C e).writes → (q : List Step) (v : Variable) → place_at C (path_of F.frames k) r ≡ Datum q v → ClosedByRights (code_system C) s (Datum q v) → ⊥
    not_closed r m q v at shut = shut.nobody ends.item here (subst (λ (u : Task). In (Datum q v) (task_writes C u)) (sym own_task) (subst (λ (a : Place). In a (task_writes C task)) at (own_right r m)))

    written : (r : Name) → In r (entry C e).writes → In (place_at C (path_of F.frames k) r) s.places
    written r m = write_there (place_at C (path_of F.frames k) r) (own_right r m)

    own_slot : (r : Name) → slot_for (layout_of C) F.frames k own_frame.0.body r ≡ job_slot C (layout_of C) F.frames (Does k e c) r
    own_slot r = sym (ap (λ (z : Option Frame). elim z [ None ↦ Absent | Some g ↦ slot_for (layout_of C) F.frames k g.body r ]) own_frame.1)

    pub leads : (r : Name) → In r (entry C e).writes → (d : ℕ) × (q : List Step) × (v : Variable) × (job_slot C (layout_of C) F.frames (Does k e c) r ≡ DatumOf d) × (place_at C (path_of F.frames k) r ≡ Datum q v) × In (d, Datum q v) x.names
    leads r m =
        let p = datum_only (place_at C (path_of F.frames k) r) (written r m) in
        let st = subst (λ (a : Place). SlotStands C s x.names (slot_for (layout_of C) F.frames k own_frame.0.body r) a) p.2 (x.frames.writes n k e c row own_frame.0 row_is is live own_frame.1 r m) in
        let z = st (subst (λ (a : Place). In a s.places) p.2 (written r m)) in
        (z.0, p.0, p.1, sym (own_slot r) ∙ z.1, p.2, z.2)

    abbrev path : List Step
    path = path_of F.frames k

    abbrev what : Computed
    what = compute (entry C e).act (answered C path (entry C e).needs xs)

    pub right : (r : Name) → In r (stored_of (entry C e).node (entry C e).act) → In r (entry C e).writes
    right r m = I.stores e r (stored_target C (entry C e).act (entry C e).node r m)

    pub clash_there : mine.Clashes C F.frames F.cells (Does k e c) what → Clashes (code_system C) s (effect_at C e path c what)
    clash_there y =
        let r = in_flat (λ r. if slot_is y.key (job_slot C (layout_of C) F.frames (Does k e c) r) then stored_values what else []) (stored_of (entry C e).node (entry C e).act) y.element y.stores in
        let z = if_in y.element (slot_is y.key (job_slot C (layout_of C) F.frames (Does k e c) r.0)) (stored_values what) r.2 in
        let ld = leads r.0 (right r.0 r.1) in
        let same : y.key ≡ ld.0 = nat_sound y.key ld.0 (sym (ap (slot_is y.key) ld.3) ∙ z.0) in
        let cell = x.data_stand.there ld.0 (Datum ld.1 ld.2) ld.5 in
        let h = holds_by C s (Datum ld.1 ld.2) y.element.0 y.older cell.0.content (place_array (Datum ld.1 ld.2)) cell.2.content (sym (ap (cell_element y.element.0) cell.1) ∙ subst (λ (d : ℕ). cell_element y.element.0 (slot_at F.cells d) ≡ Some y.older) same y.has) in (
          Datum ld.1 ld.2,
          y.element.0,
          y.element.1,
          y.older,
          h.0,
          target_stored C (entry C e).act (entry C e).node (entry C e).offset path c (answered C path (entry C e).needs xs) (record { place = Datum ld.1 ld.2; key = y.element.0; value = y.element.1 }) r.0 r.1 (sym ld.4) z.1,
          h.1,
        )

    inserted : (y : Computed) → what ≡ y → (r : Name) → In r (stored_of (entry C e).node (entry C e).act) → (q : List Step) (v : Variable) → place_at C path r ≡ Datum q v → v.array ≡ true → (p : Key × Scalar) → In p (stored_values y) → (ys : Elements) × (what ≡ Inserts ys)
    inserted (Fails f) g r i q v at arr p m = absurd m
    inserted (Gives u) g r i q v at arr p m =
        let sh : has_shape (entry C e).act (entry C e).needs ≡ true = (and_parts _ _ (I.shape e)).1 in
        let lacks : v.array ≡ false = scalar_place C path r.up r.owned q v (scalar_target (entry C e).act (entry C e).needs (entry C e).node (answered C path (entry C e).needs xs) r u sh i g) at in
        absurd (cc (sym arr ∙ lacks))
    inserted (Inserts ys) g r i q v at arr p m = (ys, g)
    inserted (Takes b) g r i q v at arr p m = absurd m
    inserted (Turns ts) g r i q v at arr p m = absurd m
    inserted Opens g r i q v at arr p m = absurd m

    pub clash_from : Clashes (code_system C) s (effect_at C e path c what) → mine.Clashes C F.frames F.cells (Does k e c) what
    clash_from g = by (stores_told C (entry C e).act (entry C e).node (entry C e).offset path c (answered C path (entry C e).needs xs) (record { place = g.0; key = g.1; value = g.2 }) g.5)
      where
        by : Stored C (entry C e).act (entry C e).node (entry C e).offset path c what (record { place = g.0; key = g.1; value = g.2 }) → mine.Clashes C F.frames F.cells (Does k e c) what
        by (into r ir at iv) =
            let ld = leads r (right r ir) in
            let a : g.0 ≡ Datum ld.1 ld.2 = at ∙ ld.4 in
            let arr : ld.2.array ≡ true = ap place_array (sym a) ∙ g.4 in
            let ins = inserted what refl r ir ld.1 ld.2 ld.4 arr (g.1, g.2) iv in
            let cell = x.data_stand.there ld.0 (Datum ld.1 ld.2) ld.5 in
            let f = held_found C s (Datum ld.1 ld.2) g.1 g.3 cell.0.content (place_array (Datum ld.1 ld.2)) arr cell.2.content (subst (λ (b : Place). Holds (code_system C) s b g.1 g.3) a g.6) in
            record {
              key = ld.0;
              element = (g.1, g.2);
              older = f.0;
              elements = ins.0;
              inserts = ins.1;
              stores = flat_in (λ r. if slot_is ld.0 (job_slot C (layout_of C) F.frames (Does k e c) r) then stored_values what else []) (stored_of (entry C e).node (entry C e).act) r (g.1, g.2) ir (in_if (g.1, g.2) (slot_is ld.0 (job_slot C (layout_of C) F.frames (Does k e c) r)) (stored_values what) (ap (slot_is ld.0) ld.3 ∙ nat_same ld.0) iv);
              has = ap (cell_element g.1) cell.1 ∙ f.1;
            }
        by (binds l y lo iy ib) = elim (bound_is l (entry C e).offset path y (record { place = g.0; key = g.1; value = g.2 }) ib).is [
          | inl z ↦ absurd (cc (sym g.4 ∙ ap place_array z.0))
          | inr z ↦ absurd (cc (sym g.4 ∙ ap place_array z.2))
        ]

  -- the same of the item's own job
  abbrev of_job : Job → Computed
  of_job j = computed_by C (task_of F.frames j) xs

  effect_is : (k e c : ℕ) (g : Effect Task Place Key Scalar) → outcome_for C (task_of F.frames (Does k e c)) (of_job (Does k e c)) ≡ Good g → effect_at C e (path_of F.frames k) c (of_job (Does k e c)) ≡ g
  effect_is k e c g h = outcome_is (of_job (Does k e c)) (is_too_deep (entry C e).act (path_of F.frames k) (instances (entry C e).act (entry C e).offset (path_of F.frames k) c (of_job (Does k e c)))) (effect_at C e (path_of F.frames k) c (of_job (Does k e c))) g h

  both_there : (j : Job) → row.job ≡ j → (g : Effect Task Place Key Scalar) → outcome_for C (task_of F.frames j) (of_job j) ≡ Good g → mine.Clashes C F.frames F.cells j (of_job j) → Clashes (code_system C) s g
  both_there Script is g h y = absurd y.stores
  both_there (Does k e c) is g h y = subst (λ (z : Effect Task Place Key Scalar). Clashes (code_system C) s z) (effect_is k e c g h) (clash_there k e c is y)

  both_from : (j : Job) → row.job ≡ j → (g : Effect Task Place Key Scalar) → outcome_for C (task_of F.frames j) (of_job j) ≡ Good g → Clashes (code_system C) s g → mine.Clashes C F.frames F.cells j (of_job j)
  both_from Script is g h y = absurd (subst (λ (z : Effect Task Place Key Scalar). In (record { place = y.0; key = y.1; value = y.2 }) z.writes) (sym (good_same h)) y.5)
    where
      good_same : {a b : Effect Task Place Key Scalar} → ◌≡◌ {A = Outcome Task Place Key Scalar EntryFault} (Good a) (Good b) → a ≡ b
      good_same h = cc h
  both_from (Does k e c) is g h y = clash_from k e c is (subst (λ (z : Effect Task Place Key Scalar). Clashes (code_system C) s z) (sym (effect_is k e c g h)) y)

  wrong_told : (f : Fault EntryFault) → GoesWrong C F.frames F.cells row.job computed f → t.fault ≡ Some (task, f)
  wrong_told (OfTask f) g = bad f g
  wrong_told ElementTwice g = twice g.0.0 g.0.1 (both_there row.job refl g.0.0 g.0.1 g.1)

  well_told : (e : ProgramEffect) → GoesWell C F.frames F.cells row.job computed e → t.fault ≡ None
  well_told e g = well g.good.0 g.good.1 (λ k. g.apart (both_from row.job refl g.good.0 g.good.1 k))

  -- the next state has the fault of the effect, and none where it has none
  pub tells : (e : ProgramEffect) → IsEffect C F.frames F.cells row.job computed e → t.fault ≡ fault_of task e
  tells (To.Fails f) g = wrong_told (kind_of_fault f.kind) g.0
  tells (To.Stores d v) g = well_told (To.Stores d v) g
  tells (To.InsertsElement d k v) g = well_told (To.InsertsElement d k v) g
  tells (To.Inserts d es) g = well_told (To.Inserts d es) g
  tells (To.Prints v) g = well_told (To.Prints v) g
  tells To.Passes g = well_told To.Passes g
  tells (To.Opens o) g = well_told (To.Opens o) g
