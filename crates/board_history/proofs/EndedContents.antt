-- What the data of a board store after an End without fault.
use Rattle.std.proofs.Common.{◌≡◌, ◌⊎◌, inl, inr, ℕ, Bool, true, false, List, [], ◌∷◌, refl, sym, ap, ◌∙◌, subst, Option, None, Some, if◌then◌else◌}
use Rattle.std.proofs.lemmas.Bool.{or_cases, and_parts}
use Rattle.dataflow.specs.System.{Answer, Effect, Good, In, Write}
use Rattle.dataflow.specs.Machine.{Event, Free, Holds}
use Rattle.dataflow.proofs.Lists.{in_left, in_map, in_right}
use Rattle.board_history.specs.Elements.{code_tests}
use Rattle.board_history.specs.Ending.{ContentAfter, Instance, StartsAs, StartsBy, empty_content, job_slot, job_stores, slot_is, stored_values, turn_content}
use Rattle.board_history.specs.Fields.{Content, Counted, DatumOf, Does, Fields, Frame, Holding, Job, Layout, Mapping, Script, Unset, path_of, slot_at, task_of}
use Rattle.board_history.specs.Replay.{is_used}
use Rattle.board_history.specs.Stands.{CellStands, ContentStands, DataStand}
use Rattle.board_history.specs.Counts.{readers, writers}
use Rattle.board_history.specs.Static.{computed_by, opened, own_count}
use Rattle.board_history.proofs.Elements.{code_told}
use Rattle.board_history.proofs.Ended.{good_is, outcome_is}
use Rattle.board_history.proofs.EndedBase.{Ending, bare_s, bare_t, computed, effect_is, made_new, o, read_there, task, value_stays, value_was, write_there}
use Rattle.board_history.proofs.EndedCells.{name_is, names_after, naming, new_apart, old_name, own_name, new_reads, new_there, new_writes, old_cell, old_cell_used}
use Rattle.board_history.proofs.EndedFrames.{made}
use Rattle.board_history.proofs.EndedNames.{Resolved, datum_only, flat_in, in_flat, own_writes, slot_test, to_datum, to_literal}
use Rattle.board_history.proofs.EndedStores.{Stored, binds, bound_is, into, scalar_key, stores_told, target_stored, turn_in_bound, turn_stored, value_in_bound}
use Rattle.board_history.proofs.Tests.{a_reader, a_writer, choose, none_some, unused_free, yes_no}
use Rattle.task_code.proofs.Chunks.{computed_apart, in_chunk}
use Rattle.task_code.proofs.Equal.{key_once, place_same, place_sound, variable_same, variable_sound}
use Rattle.task_code.proofs.Places.{scalar_name, spot_variable}
use Rattle.task_code.proofs.Rights.{loop_instances, stored_target}
use Rattle.task_code.specs.Code.{Code, Loop, Name, Variable, body, entry, is_array_name, loop_of, loop_variables, scalar, stored_of}
use Rattle.task_code.specs.Compute.{Computed, Elements, compute, key_scalar}
use Rattle.task_code.specs.Effects.{Task, bound, chunk, effect_at, instances, is_too_deep, only, step_at, stores, turns_of}
use Rattle.task_code.specs.Machine.{CodeState}
use Rattle.task_code.specs.Places.{Constant, Datum, Place, Step, place_array, place_at, place_eq, variable_eq}
use Rattle.task_code.specs.System.{answered, code_system}
use Rattle.task_code.specs.Whole.{IsCode}
use Rattle.values.specs.declared.key.Key.{Key}
use Rattle.values.specs.declared.value.Scalar.{Scalar}

if_in : {X : Type 0} (z : X) (b : Bool) (xs : List X) → In z (if b then xs else []) → (b ≡ true) × In z xs
if_in z true xs h = (refl, h)
if_in z false xs h = absurd h

in_if : {X : Type 0} (z : X) (b : Bool) (xs : List X) → b ≡ true → In z xs → In z (if b then xs else [])
in_if z true xs e h = h
in_if z false xs e h = yes_no e refl

key_step : (a b : Key) (m k : ℕ) (p q : List Step) → step_at m a p ≡ step_at k b q → a ≡ b
key_step a b m k p q h = let e : ◌≡◌ {A = Step} (record { offset = m; key = a }) (record { offset = k; key = b }) = cc (h) in ap (λ (z : Step). z.key) e

true_array : (v : Variable) (k : ℕ) → v.array ≡ true → variable_eq v (scalar k) ≡ true → ⊥
true_array v k h e = yes_no h (ap (λ (y : Variable). y.array) (variable_sound v (scalar k) e))

module _ (C : Code) (I : IsCode C) (L : Layout) (es : List Event) (F : Fields) (w n : ℕ) (t : CodeState) (G : Fields) (P : Ending C L es F w n t G) where
  abbrev names : List (ℕ × Place)
  names = P.x.names

  abbrev fs : List (Option Frame)
  fs = F.frames

  abbrev j : Job
  j = P.row.job

  abbrev ms : List Instance
  ms = made C I L es F w n t G P

  abbrev effect : Effect Task Place Key Scalar
  effect = (o C I L es F w n t G P).effect

  abbrev write : Place → Key → Scalar → Write Place Key Scalar
  write a k v = record { place = a; key = k; value = v }

  -- what the job writes
  abbrev pub computed_of : Job → Computed
  computed_of x = computed_by C (task_of fs x) P.answers

  abbrev pub job_writes : Job → List (Write Place Key Scalar)
  job_writes Script = []
  job_writes (Does k e c) = stores C (entry C e).act (entry C e).node (entry C e).offset (path_of fs k) c (computed_of (Does k e c))

  writes_by : (x : Job) → (code_system C).effect (task_of fs x) P.answers ≡ Good effect → effect.writes ≡ job_writes x
  writes_by Script h = sym (ap (λ (e : Effect Task Place Key Scalar). e.writes) (good_is h))
  writes_by (Does k e c) h =
      let y = computed_of (Does k e c) in
      sym (ap (λ (e : Effect Task Place Key Scalar). e.writes) (outcome_is y (is_too_deep (entry C e).act (path_of fs k) (instances (entry C e).act (entry C e).offset (path_of fs k) c y)) (effect_at C e (path_of fs k) c y) effect h))

  writes_are : effect.writes ≡ job_writes j
  writes_are = writes_by j (effect_is C I L es F w n t G P)

  -- a stored value is of a datum that is there
  stored_there : (v : Write Place Key Scalar) → In v P.x.state.stored → In v.place P.x.state.places
  stored_there v h = by (is_used (code_system C) code_tests P.x.state.items v.place) refl
    where
      by : (b : Bool) → is_used (code_system C) code_tests P.x.state.items v.place ≡ b → In v.place P.x.state.places
      by false e = absurd ((bare_s C I L es F w n t G P).values v h (unused_free (code_system C) code_tests (code_told C) P.x.state v.place e))
      by true e =
          elim (or_cases _ _ e) [
            | inl r ↦ (let i = a_reader (code_system C) code_tests (code_told C) P.x.state.items v.place r in read_there C I L es F w n t G P i.0 i.1 v.place i.2)
            | inr r ↦ (let i = a_writer (code_system C) code_tests (code_told C) P.x.state.items v.place r in write_there C I L es F w n t G P i.0 i.1 v.place i.2)
          ]

  -- a datum keeps its values, and gets what the item writes
  pub held_on : (a : Place) (k : Key) (v : Scalar) → (Free (code_system C) t a → ⊥) → Holds (code_system C) P.x.state a k v → Holds (code_system C) t a k v
  held_on a k v nf h = value_stays C I L es F w n t G P (write a k v) (in_right (write a k v) effect.writes P.x.state.stored h) nf

  pub written_on : (a : Place) (k : Key) (v : Scalar) → (Free (code_system C) t a → ⊥) → In (write a k v) (job_writes j) → Holds (code_system C) t a k v
  written_on a k v nf h =
      value_stays C I L es F w n t G P (write a k v) (in_left (write a k v) effect.writes P.x.state.stored (subst (λ (l : List (Write Place Key Scalar)). In (write a k v) l) (sym writes_are) h)) nf

  pub held_was : (a : Place) (k : Key) (v : Scalar) → Holds (code_system C) t a k v → Holds (code_system C) P.x.state a k v ⊎ In (write a k v) (job_writes j)
  held_was a k v h =
      elim (value_was C I L es F w n t G P (write a k v) h) [
        | inl g ↦ inr (subst (λ (l : List (Write Place Key Scalar)). In (write a k v) l) writes_are g)
        | inr g ↦ inl g
      ]

  target_right : (e : ℕ) (r : Name) → In r (stored_of (entry C e).node (entry C e).act) → In r (entry C e).writes
  target_right e r h = I.stores e r (stored_target C (entry C e).act (entry C e).node r h)

  -- what a turn binds is new
  turn_new : (k e c : ℕ) → j ≡ Does k e c → (l : Loop) (x : Key × Scalar) → loop_of (entry C e).act ≡ Some l → In x (chunk c (turns_of (computed_of (Does k e c)))) → In (l.body, step_at (entry C e).offset x.0 (path_of fs k)) (opened C (task C I L es F w n t G P) (computed C I L es F w n t G P))
  turn_new k e c q l x lo ix =
      subst (λ (z : Job). In (l.body, step_at (entry C e).offset x.0 (path_of fs k)) (opened C (task_of fs z) (computed_of z))) (sym q)
      (subst (λ (ss : List (ℕ × List Step)). In (l.body, step_at (entry C e).offset x.0 (path_of fs k)) ss) (sym (loop_instances C (entry C e).act l (entry C e).offset (path_of fs k) c (computed_of (Does k e c)) lo))
      (in_map (λ (t : Key × Scalar). (l.body, step_at (entry C e).offset t.0 (path_of fs k))) x (chunk c (turns_of (computed_of (Does k e c)))) ix))

  turn_apart : {B : Type 0} (k e c : ℕ) → j ≡ Does k e c → (l : Loop) (x : Key × Scalar) → loop_of (entry C e).act ≡ Some l → In x (chunk c (turns_of (computed_of (Does k e c)))) → (v : Variable) → In v (loop_variables l) → In (Datum (step_at (entry C e).offset x.0 (path_of fs k)) v) P.x.state.places → B
  turn_apart k e c q l x lo ix v iv h =
      absurd (made_new C I L es F w n t G P (l.body, step_at (entry C e).offset x.0 (path_of fs k)) (turn_new k e c q l x lo ix) (Datum (step_at (entry C e).offset x.0 (path_of fs k)) v)
      (in_map (Datum (step_at (entry C e).offset x.0 (path_of fs k))) v (body C l.body).makes ((I.loops e l lo).made v iv)) h)

  -- where a bound variable lies
  bound_place : (l : Loop) (offset : ℕ) (p : List Step) (x : Key × Scalar) (u : Write Place Key Scalar) → In u (bound l offset p x) → (v : Variable) × In v (loop_variables l) × (u.place ≡ Datum (step_at offset x.0 p) v)
  bound_place l offset p x u h =
      elim (bound_is l offset p x u h).is [
        | inl z ↦ (scalar l.value, inl refl, z.0)
        | inr z ↦ (scalar z.0, inr (subst (λ (y : Option ℕ). In (scalar z.0) (elim y [ None ↦ [] | Some n ↦ scalar n ∷ [] ])) (sym z.1) (inl refl)), z.2)
      ]

  -- what is written into a datum that was there is what the fields say
  stored_to : (d : ℕ) (q : List Step) (v : Variable) → In (d, Datum q v) names → (k : Key) (u : Scalar) (x : Job) → j ≡ x → In (k, u) (job_stores C L fs x (computed_of x) d) → In (write (Datum q v) k u) (job_writes x)
  stored_to d q v h k u Script e i = absurd i
  stored_to d q v h k u (Does f x c) e i =
      let r = in_flat (λ r. if slot_is d (job_slot C L fs (Does f x c) r) then stored_values (computed_of (Does f x c)) else []) (stored_of (entry C x).node (entry C x).act) (k, u) i in
      let z = if_in (k, u) (slot_is d (job_slot C L fs (Does f x c) r.0)) (stored_values (computed_of (Does f x c))) r.2 in
      let same = slot_test C names P.x.data_stand.naming.one_name P.x.data_stand.naming.one_datum d (Datum q v) h (job_slot C L fs (Does f x c) r.0) (place_at C (path_of fs f) r.0) (own_writes C I L es F w n t G P f x c e r.0 (target_right x r.0 r.1)) q v refl in
      target_stored C (entry C x).act (entry C x).node (entry C x).offset (path_of fs f) c (answered C (path_of fs f) (entry C x).needs P.answers) (write (Datum q v) k u) r.0 r.1 (place_sound (Datum q v) (place_at C (path_of fs f) r.0) (sym same ∙ z.0)) z.1

  pub to_stored : (d : ℕ) (q : List Step) (v : Variable) → In (d, Datum q v) names → (k : Key) (u : Scalar) (x : Job) → j ≡ x → In (write (Datum q v) k u) (job_writes x) → In (k, u) (job_stores C L fs x (computed_of x) d)
  to_stored d q v h k u Script e i = absurd i
  to_stored d q v h k u (Does f x c) e i =
      by (stores_told C (entry C x).act (entry C x).node (entry C x).offset (path_of fs f) c (answered C (path_of fs f) (entry C x).needs P.answers) (write (Datum q v) k u) i)
    where
      by : Stored C (entry C x).act (entry C x).node (entry C x).offset (path_of fs f) c (computed_of (Does f x c)) (write (Datum q v) k u) → In (k, u) (job_stores C L fs (Does f x c) (computed_of (Does f x c)) d)
      by (into r ir at iv) =
          let same = slot_test C names P.x.data_stand.naming.one_name P.x.data_stand.naming.one_datum d (Datum q v) h (job_slot C L fs (Does f x c) r) (place_at C (path_of fs f) r) (own_writes C I L es F w n t G P f x c e r (target_right x r ir)) q v refl in
          let b : place_eq (Datum q v) (place_at C (path_of fs f) r) ≡ true = subst (λ (y : Place). place_eq (Datum q v) y ≡ true) at (place_same (Datum q v)) in
          flat_in (λ r. if slot_is d (job_slot C L fs (Does f x c) r) then stored_values (computed_of (Does f x c)) else []) (stored_of (entry C x).node (entry C x).act) r (k, u) ir (in_if (k, u) (slot_is d (job_slot C L fs (Does f x c) r)) (stored_values (computed_of (Does f x c))) (same ∙ b) iv)
      by (binds l y lo iy ib) =
          let z = bound_place l (entry C x).offset (path_of fs f) y (write (Datum q v) k u) ib in
          turn_apart f x c e l y lo iy z.0 z.1 (subst (λ (a : Place). In a P.x.state.places) z.2 (P.x.data_stand.naming.there d (Datum q v) h))

  -- a scalar is stored under one key
  scalar_only : (d : ℕ) (q : List Step) (v : Variable) → In (d, Datum q v) names → v.array ≡ false → (k : Key) (u : Scalar) (x : Job) → j ≡ x → In (k, u) (job_stores C L fs x (computed_of x) d) → k ≡ only
  scalar_only d q v h na k u Script e i = absurd i
  scalar_only d q v h na k u (Does f x c) e i =
      let r = in_flat (λ r. if slot_is d (job_slot C L fs (Does f x c) r) then stored_values (computed_of (Does f x c)) else []) (stored_of (entry C x).node (entry C x).act) (k, u) i in
      let z = if_in (k, u) (slot_is d (job_slot C L fs (Does f x c) r.0)) (stored_values (computed_of (Does f x c))) r.2 in
      let same = slot_test C names P.x.data_stand.naming.one_name P.x.data_stand.naming.one_datum d (Datum q v) h (job_slot C L fs (Does f x c) r.0) (place_at C (path_of fs f) r.0) (own_writes C I L es F w n t G P f x c e r.0 (target_right x r.0 r.1)) q v refl in
      let at : Datum q v ≡ place_at C (path_of fs f) r.0 = place_sound (Datum q v) (place_at C (path_of fs f) r.0) (sym same ∙ z.0) in
      let scalar_is : is_array_name r.0 ≡ false = scalar_name C (path_of fs f) r.0.up r.0.owned (ap place_array (sym at) ∙ na) in
      scalar_key (entry C x).act (entry C x).needs (entry C x).node (answered C (path_of fs f) (entry C x).needs P.answers) r.0 k u (and_parts _ _ (I.shape x)).1 r.1 scalar_is z.1

  -- the content of a datum that was there
  pub old_content : (d : ℕ) (q : List Step) (v : Variable) → In (d, Datum q v) names → (Free (code_system C) t (Datum q v) → ⊥) → (b : Bool) → v.array ≡ b → (c x : Content) → ContentStands C P.x.state (Datum q v) b c → ContentAfter c (job_stores C L fs j (computed C I L es F w n t G P) d) x → ContentStands C t (Datum q v) b x
  old_content d q v h nf false na Unset x st af = by (job_stores C L fs j (computed C I L es F w n t G P) d) refl af
    where
      by : (l : Elements) → job_stores C L fs j (computed C I L es F w n t G P) d ≡ l → ContentAfter Unset l x → ContentStands C t (Datum q v) false x
      by [] e af =
          subst (λ (y : Content). ContentStands C t (Datum q v) false y) (sym af) (λ u g. elim (held_was (Datum q v) only u g) [
            | inl k ↦ st u k
            | inr k ↦ subst (λ (l : Elements). In (only, u) l) e (to_stored d q v h only u j refl k)
          ])
      by (y ∷ ys) e af =
          let i : In y (job_stores C L fs j (computed C I L es F w n t G P) d) = subst (λ (l : Elements). In y l) (sym e) (inl refl) in
          let k : y.0 ≡ only = scalar_only d q v h na y.0 y.1 j refl i in
          subst (λ (z : Content). ContentStands C t (Datum q v) false z) (sym af) (written_on (Datum q v) only y.1 nf (subst (λ (z : Key). In (write (Datum q v) z y.1) (job_writes j)) k (stored_to d q v h y.0 y.1 j refl i)))
  old_content d q v h nf false na (Holding u) x st af =
      subst (λ (y : Content). ContentStands C t (Datum q v) false y) (sym af) (held_on (Datum q v) only u nf st)
  old_content d q v h nf false na (Mapping ys) x st af = absurd st
  old_content d q v h nf true na (Mapping ys) x st af =
      subst (λ (y : Content). ContentStands C t (Datum q v) true y) (sym af.1) (
        (λ k u g. elim (held_was (Datum q v) k u g) [ inl i ↦ af.3 (k, u) (inl (st.0 k u i)) | inr i ↦ af.3 (k, u) (inr (to_stored d q v h k u j refl i)) ]),
        (λ k u g. elim (af.2 (k, u) g) [ inl i ↦ held_on (Datum q v) k u nf (st.1 k u i) | inr i ↦ written_on (Datum q v) k u nf (stored_to d q v h k u j refl i) ]),
      )
  old_content d q v h nf true na Unset x st af = absurd st
  old_content d q v h nf true na (Holding u) x st af = absurd st

  -- a turn of a loop is told by its key
  turn_same : (x c : ℕ) (xs : List (Answer Key Scalar)) (y z : Key × Scalar) → In y (chunk c (turns_of (compute (entry C x).act xs))) → In z (chunk c (turns_of (compute (entry C x).act xs))) → y.0 ≡ z.0 → ◌≡◌ {A = Key × Scalar} y z
  turn_same x c xs y z iy iz e =
      let ts = turns_of (compute (entry C x).act xs) in
      let v = key_once ts (computed_apart (entry C x).act xs).0 y.0 y.1 z.1 (in_chunk c ts y iy) (subst (λ (k : Key). In (k, z.1) ts) (sym e) (in_chunk c ts z iz)) in
      λ i. (e i, v i)

  module _ (m : Instance) (v : Variable) (im : In m ms) (iv : In v (body C m.body).makes) (nf : Free (code_system C) t (Datum m.path v) → ⊥) where
    abbrev a : Place
    a = Datum m.path v

    -- what a new datum stores was written by this item
    new_held : (k : Key) (u : Scalar) → Holds (code_system C) t a k u → In (write a k u) (job_writes j)
    new_held k u h = elim (held_was a k u h) [ inl g ↦ absurd (new_apart C I L es F w n t G P m v im iv (stored_there (write a k u) g)) | inr g ↦ g ]

    -- and that binds a loop's variable
    record NewBound (f x c : ℕ) (k : Key) (u : Scalar) : Type 0 where
      loop : Loop
      turn : Key × Scalar
      loops : loop_of (entry C x).act ≡ Some loop
      there : In turn (chunk c (turns_of (computed_of (Does f x c))))
      bound_in : In (write a k u) (bound loop (entry C x).offset (path_of fs f) turn)

    new_bound : (f x c : ℕ) → j ≡ Does f x c → (k : Key) (u : Scalar) → In (write a k u) (job_writes (Does f x c)) → NewBound f x c k u
    new_bound f x c e k u i =
        by (stores_told C (entry C x).act (entry C x).node (entry C x).offset (path_of fs f) c (answered C (path_of fs f) (entry C x).needs P.answers) (write a k u) i)
      where
        by : Stored C (entry C x).act (entry C x).node (entry C x).offset (path_of fs f) c (computed_of (Does f x c)) (write a k u) → NewBound f x c k u
        by (into r ir at ik) = old (own_writes C I L es F w n t G P f x c e r (target_right x r ir))
          where
            not_it : (q : List Step) (y : Variable) (b : Place) → place_at C (path_of fs f) r ≡ b → In b P.x.state.places → ⊥
            not_it q y b p h = new_apart C I L es F w n t G P m v im iv (subst (λ (z : Place). In z P.x.state.places) (sym (at ∙ p)) h)

            old : Resolved C names (job_slot C L fs (Does f x c) r) (place_at C (path_of fs f) r) → NewBound f x c k u
            old (to_datum d q y p z i) = absurd (not_it q y (Datum q y) z (P.x.data_stand.naming.there d (Datum q y) i))
            old (to_literal e b y p z l) = let h : Datum m.path v ≡ Constant y = at ∙ z in absurd (cc (h))
        by (binds l y lo iy ib) = record { loop = l; turn = y; loops = lo; there = iy; bound_in = ib }

    content_empty : (b : Bool) → ((k : Key) (u : Scalar) → Holds (code_system C) t a k u → ⊥) → ContentStands C t a b (empty_content b)
    content_empty false ne = λ u h. ne only u h
    content_empty true ne = ((λ k u h. absurd (ne k u h)), (λ k u h. absurd h))

    content_at : (b : Bool) (x y : Content) → x ≡ y → ContentStands C t a b y → ContentStands C t a b x
    content_at b x y e h = subst (λ (z : Content). ContentStands C t a b z) (sym e) h

    -- a value that is stored from the start
    content_held : (u : Scalar) → v.array ≡ false → Holds (code_system C) t a only u → ContentStands C t a v.array (Holding u)
    content_held u na h = by v.array na
      where
        by : (b : Bool) → b ≡ false → ContentStands C t a b (Holding u)
        by false e = h
        by true e = yes_no refl e

    -- nothing is stored where no variable of the loop is meant
    not_bound : (f x c : ℕ) → j ≡ Does f x c → (l : Loop) → loop_of (entry C x).act ≡ Some l → variable_eq v (scalar l.value) ≡ false → ((i : ℕ) → l.turn ≡ Some i → variable_eq v (scalar i) ≡ false) → (k : Key) (u : Scalar) → Holds (code_system C) t a k u → ⊥
    not_bound f x c e l lo nv nt k u h =
        let b = new_bound f x c e k u (subst (λ (q : Job). In (write a k u) (job_writes q)) e (new_held k u h)) in
        let el : b.loop ≡ l = same_loop (sym b.loops ∙ lo) in
        elim (bound_is b.loop (entry C x).offset (path_of fs f) b.turn (write a k u) b.bound_in).is [
          | inl z ↦ yes_no (ap (λ (y : Variable). variable_eq v y) (sym (spot_variable z.0 ∙ ap (λ (y : Loop). scalar y.value) el)) ∙ variable_same v) nv
          | inr z ↦ yes_no (ap (λ (y : Variable). variable_eq v y) (sym (spot_variable z.2)) ∙ variable_same v) (nt z.0 (ap (λ (y : Loop). y.turn) (sym el) ∙ z.1))
        ]
      where
        same_loop : {b d : Loop} → ◌≡◌ {A = Option Loop} (Some b) (Some d) → b ≡ d
        same_loop h = cc

    turn_stands : (f x c : ℕ) → j ≡ Does f x c → (l : Loop) (y : Key × Scalar) → loop_of (entry C x).act ≡ Some l → In y (chunk c (turns_of (computed_of (Does f x c)))) → m.path ≡ step_at (entry C x).offset y.0 (path_of fs f) → ContentStands C t a v.array (turn_content l y v)
    turn_stands f x c e l y lo iy path =
        choose (λ (z : Content). ContentStands C t a v.array z) (variable_eq v (scalar l.value)) (Holding y.1) (elim l.turn [ None ↦ empty_content v.array | Some n ↦ if variable_eq v (scalar n) then Holding (key_scalar y.0) else empty_content v.array ])
        (λ u. let ev = variable_sound v (scalar l.value) u in
        content_held y.1 (ap (λ (z : Variable). z.array) ev) (held_of l.value y.1 (value_in_bound l (entry C x).offset (path_of fs f) y) ev))
        (λ u. by l.turn refl u)
      where
        held_of : (i : ℕ) (u : Scalar) → In (write (Datum (step_at (entry C x).offset y.0 (path_of fs f)) (scalar i)) only u) (bound l (entry C x).offset (path_of fs f) y) → v ≡ scalar i → Holds (code_system C) t a only u
        held_of i u ip ev =
            let z : a ≡ Datum (step_at (entry C x).offset y.0 (path_of fs f)) (scalar i) = λ k. Datum (path k) (ev k) in
            let g = turn_stored C (entry C x).act (entry C x).node (entry C x).offset (path_of fs f) c (computed_of (Does f x c)) (write (Datum (step_at (entry C x).offset y.0 (path_of fs f)) (scalar i)) only u) l y lo iy ip in
            written_on a only u nf (subst (λ (q : Job). In (write a only u) (job_writes q)) (sym e) (subst (λ (b : Place). In (write b only u) (job_writes (Does f x c))) (sym z) g))

        some_nat : {b d : ℕ} → ◌≡◌ {A = Option ℕ} (Some b) (Some d) → b ≡ d
        some_nat h = cc

        by : (o : Option ℕ) → l.turn ≡ o → variable_eq v (scalar l.value) ≡ false → ContentStands C t a v.array (elim o [ None ↦ empty_content v.array | Some n ↦ if variable_eq v (scalar n) then Holding (key_scalar y.0) else empty_content v.array ])
        by None eo u = content_empty v.array (not_bound f x c e l lo u (λ i z. none_some (sym eo ∙ z)))
        by (Some i) eo u =
            choose (λ (z : Content). ContentStands C t a v.array z) (variable_eq v (scalar i)) (Holding (key_scalar y.0)) (empty_content v.array)
            (λ z. let ev = variable_sound v (scalar i) z in
            content_held (key_scalar y.0) (ap (λ (q : Variable). q.array) ev) (held_of i (key_scalar y.0) (turn_in_bound l (entry C x).offset (path_of fs f) y i eo) ev))
            (λ z. content_empty v.array (not_bound f x c e l lo u (λ k q. ap (λ (y : ℕ). variable_eq v (scalar y)) (some_nat (sym q ∙ eo)) ∙ z)))

    pub new_content : (x : Content) → StartsAs C fs j (computed C I L es F w n t G P) m v x → ContentStands C t a v.array x
    new_content x st = by j refl st
      where
        by : (b : Job) → j ≡ b → StartsAs C fs b (computed_of b) m v x → ContentStands C t a v.array x
        by Script e st = content_at v.array x (empty_content v.array) st (content_empty v.array (λ k u h. subst (λ (q : Job). In (write a k u) (job_writes q)) e (new_held k u h)))
        by (Does f y c) e st = of (loop_of (entry C y).act) refl st
          where
            of : (l : Option Loop) → loop_of (entry C y).act ≡ l → StartsBy (path_of fs f) (entry C y).offset c (computed_of (Does f y c)) m v x l → ContentStands C t a v.array x
            of None lo st =
                content_at v.array x (empty_content v.array) st (content_empty v.array (λ k u h. let b = new_bound f y c e k u (subst (λ (q : Job). In (write a k u) (job_writes q)) e (new_held k u h)) in none_some (sym lo ∙ b.loops)))
            of (Some l) lo st = content_at v.array x (turn_content l st.0 v) st.3 (turn_stands f y c e l st.0 lo st.1 st.2)

  -- data afterwards
  pub data_after : DataStand C G t (names_after C I L es F w n t G P)
  data_after = record {
    naming = naming C I L es F w n t G P;
    there = there;
    only = only_;
  }
    where
      cell_is : (a : Place) (c k : Counted) → k ≡ c → CellStands C t a k → CellStands C t a c
      cell_is a c k e h = subst (λ (x : Counted). CellStands C t a x) e h

      there : (d : ℕ) (a : Place) → In (d, a) (names_after C I L es F w n t G P) → (c : Counted) × (slot_at G.cells d ≡ Some c) × CellStands C t a c
      there d a h =
          elim (name_is C I L es F w n t G P d a h).is [
            | inl g ↦ (let u = old_cell_used C I L es F w n t G P d a g.0 g.1.0 g.1.1 in
                let x = old_cell C I L es F w n t G P d a g.0 in
                let p = datum_only C I L es F w n t G P a (P.x.data_stand.naming.there d a g.0) in (
                  g.1.0,
                  g.1.1,
                  cell_is a g.1.0 _ (sym u.1) (record {
                    reads = x.reads;
                    writes = x.writes;
                    content = subst (λ (b : Place). ContentStands C t b (place_array b) x.after.content) (sym p.2) (old_content d p.0 p.1 (subst (λ (b : Place). In (d, b) names) p.2 g.0) (subst (λ (b : Place). Free (code_system C) t b → ⊥) p.2 u.0) p.1.array refl x.before.content x.after.content (subst (λ (b : Place). ContentStands C P.x.state b (place_array b) x.before.content) p.2 x.stood.content) x.after.stores);
                  }),
                ))
            | inr g ↦ (let c = P.to.cells.new g.0 g.1 g.2 g.3.declared g.3.named in
                let e : c.key ≡ d = same_datum (sym c.leads ∙ g.3.leads) in (
                  record { reads = own_count C (λ e. e.reads) g.0.body g.1; writes = own_count C (λ e. e.writes) g.0.body g.1; content = c.content },
                  subst (λ (k : ℕ). slot_at G.cells k ≡ Some (record { reads = own_count C (λ e. e.reads) g.0.body g.1; writes = own_count C (λ e. e.writes) g.0.body g.1; content = c.content })) e c.is,
                  record {
                    reads = sym (new_reads C I L es F w n t G P g.0 g.1 g.2 g.3.declared) ∙ ap (readers (code_system C) code_tests t) (sym g.4);
                    writes = sym (new_writes C I L es F w n t G P g.0 g.1 g.2 g.3.declared) ∙ ap (writers (code_system C) code_tests t) (sym g.4);
                    content = subst (λ (b : Place). ContentStands C t b (place_array b) c.content) (sym g.4) (new_content g.0 g.1 g.2 g.3.declared ((bare_t C I L es F w n t G P).places (Datum g.0.path g.1) (new_there C I L es F w n t G P g.0 g.1 g.2 g.3.declared g.3.named)) c.content c.starts);
                  },
                ))
          ]
        where
          same_datum : {x y : ℕ} → DatumOf x ≡ DatumOf y → x ≡ y
          same_datum h = cc

      only_ : (d : ℕ) (c : Counted) → slot_at G.cells d ≡ Some c → (a : Place) × In (d, a) (names_after C I L es F w n t G P)
      only_ d c h =
          elim (P.to.cells.only d c h) [
            | inl g ↦ (let a = P.x.data_stand.only d g.0 g.1 in (a.0, old_name C I L es F w n t G P d a.0 c a.1 h))
            | inr g ↦ (Datum g.0.path g.1, own_name C I L es F w n t G P d g.0 g.1 g.2 g.3)
          ]
