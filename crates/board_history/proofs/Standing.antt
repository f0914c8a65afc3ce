-- What the fields of a board tell of the state that they stand for.
use Rattle.std.proofs.Common.{◌≡◌, inl, inr, ℕ, zero, suc, Bool, true, false, List, [], ◌∷◌, ◌++◌, map, refl, sym, ap, ◌∙◌, subst, Option, None, Some, arith}
use Rattle.std.specs.Prelude.{ℤ, pos}
use Rattle.std.specs.Ordering.{int_eq}
use Rattle.std.specs.List.{flat_map}
use Rattle.std.proofs.lemmas.Int.{ints}
use Rattle.dataflow.specs.System.{Distinct, In, Input, StoredScalar, ClosedArray, ElementOf, ElementAt}
use Rattle.dataflow.specs.Machine.{Event, IsKnown, start, Item as MachineItem}
use Rattle.dataflow.proofs.Known.{one_value}
use Rattle.dataflow.proofs.Lists.{in_map}
use Rattle.dataflow.proofs.Numbers.{number_of_item, run_numbered}
use Rattle.dataflow.proofs.Steps.{run_follows}
use Rattle.dataflow.specs.History.{log_of}
use Rattle.board_history.specs.Replay.{is_closed, value_at}
use Rattle.board_history.specs.Counts.{readers, writers}
use Rattle.board_history.specs.Elements.{code_tests}
use Rattle.board_history.specs.Fields.{Counted, Does, Fields, Layout, Ready, Row, Script, Waiter, Waiting, Want, row_of, slot_at, task_of}
use Rattle.board_history.specs.Stands.{Stands, Queued, array_wanted, element_wanted, first_fields, kept_turns, keyed_wanted, scalar_wanted, wanted, wants, AllStand}
use Rattle.board_history.proofs.Tests.{choose, yes_no, none_some, value_held, held_value, closed_sound, closed_told, some_same, none_or}
use Rattle.board_history.proofs.Counts.{closed_counts, counts_closed, counts_free}
use Rattle.board_history.proofs.Elements.{code_told}
use Rattle.board_history.proofs.Quiet.{replayed_bare}
use Rattle.board_history.proofs.Replays.{run_replayed}
use Rattle.board_history.proofs.Seen.{OneValue}
use Rattle.task_code.proofs.Kept.{code_laws}
use Rattle.task_code.specs.Code.{Code, Control, Kind, Leaf}
use Rattle.task_code.specs.Compute.{key_of}
use Rattle.task_code.specs.Effects.{Item, Main, Task, only}
use Rattle.task_code.specs.Machine.{ClosedByRights, CodeItem, CodeState, Enabled}
use Rattle.task_code.specs.Places.{Place, Step}
use Rattle.task_code.specs.System.{code_system, task_inputs, task_kind, task_priority}
use Rattle.task_code.specs.Whole.{IsCode}
use Rattle.values.specs.Keys.{hash_of}
use Rattle.values.specs.declared.key.Key.{Key}
use Rattle.values.specs.declared.value.Scalar.{Scalar}

-- a number is one item's
pub one_number : {T : Type 0} (is : List (MachineItem T)) (i j : MachineItem T) → Distinct (map number_of_item is) → In i is → In j is → i.number ≡ j.number → i ≡ j
one_number [] i j d h g e = absurd h
one_number (k ∷ is) i j d h g e =
    elim h [
      | inl p ↦ elim g [
        | inl q ↦ p ∙ sym q
        | inr b ↦ absurd (d.0 (subst (λ (m : ℕ). In m (map number_of_item is)) (sym e ∙ ap number_of_item p) (in_map number_of_item j is b)))
      ]
      | inr a ↦ elim g [
        | inl q ↦ absurd (d.0 (subst (λ (m : ℕ). In m (map number_of_item is)) (e ∙ ap number_of_item q) (in_map number_of_item i is a)))
        | inr b ↦ one_number is i j d.1 a b e
      ]
    ]

cons_nil : {X B : Type 0} {x : X} {xs : List X} → ◌≡◌ {A = List X} (x ∷ xs) [] → B
cons_nil h = absurd (cc)

append_nil : {X : Type 0} (xs ys : List X) → xs ++ ys ≡ [] → (xs ≡ []) × (ys ≡ [])
append_nil [] ys h = (refl, h)
append_nil (x ∷ xs) ys h = cons_nil h

nil_append : {X : Type 0} (xs ys : List X) → xs ≡ [] → ys ≡ [] → xs ++ ys ≡ []
nil_append [] ys h k = k
nil_append (x ∷ xs) ys h k = cons_nil h

module _ (C : Code) (s : CodeState) (one : OneValue (code_system C) code_tests (code_told C) s) where
  Value : Place → Key → Option Scalar → Type 0
  Value a k r = value_at (code_system C) code_tests s.stored a k ≡ r

  -- an input that is known has no want, and one without is known
  element_none : (a : Place) (k : Key) (r : Option Scalar) (b : Bool) → value_at (code_system C) code_tests s.stored a k ≡ r → is_closed (code_system C) code_tests s a ≡ b → element_wanted r b a (hash_of k) ≡ [] → IsKnown (code_system C) s (ElementOf a k)
  element_none a k (Some v) b q c h = inl (v, value_held (code_system C) code_tests (code_told C) s.stored a k v q)
  element_none a k None true q c h = inr (closed_sound (code_system C) code_tests (code_told C) s a c)
  element_none a k None false q c h = cons_nil h

  none_element : (a : Place) (k : Key) (r : Option Scalar) (b : Bool) → value_at (code_system C) code_tests s.stored a k ≡ r → is_closed (code_system C) code_tests s a ≡ b → IsKnown (code_system C) s (ElementOf a k) → element_wanted r b a (hash_of k) ≡ []
  none_element a k (Some v) b q c h = refl
  none_element a k None true q c h = refl
  none_element a k None false q c (inl h) =
      let u = held_value (code_system C) code_tests (code_told C) s.stored a k h.0 h.1 in
      none_some (sym q ∙ u.1)
  none_element a k None false q c (inr h) = yes_no (closed_told (code_system C) code_tests (code_told C) s a h) c

  scalar_none : (d : Place) (r : Option Scalar) → value_at (code_system C) code_tests s.stored d only ≡ r → scalar_wanted r d ≡ [] → IsKnown (code_system C) s (StoredScalar d)
  scalar_none d None q h = cons_nil h
  scalar_none d (Some v) q h = (v, value_held (code_system C) code_tests (code_told C) s.stored d only v q)

  array_none : (a : Place) (b : Bool) → is_closed (code_system C) code_tests s a ≡ b → array_wanted b a ≡ [] → IsKnown (code_system C) s (ClosedArray a)
  array_none a true q h = closed_sound (code_system C) code_tests (code_told C) s a q
  array_none a false q h = cons_nil h

  keyed_none : (a d : Place) (r : Option Scalar) → value_at (code_system C) code_tests s.stored d only ≡ r → keyed_wanted C s a d r ≡ [] → IsKnown (code_system C) s (ElementAt a d)
  keyed_none a d None q h = cons_nil h
  keyed_none a d (Some v) q h =
      (v, value_held (code_system C) code_tests (code_told C) s.stored d only v q, element_none a (key_of v) (value_at (code_system C) code_tests s.stored a (key_of v)) (is_closed (code_system C) code_tests s a) refl refl h)

  wanted_none : (i : Input Place Key) → wanted C s i ≡ [] → IsKnown (code_system C) s i
  wanted_none (StoredScalar d) h = scalar_none d (value_at (code_system C) code_tests s.stored d only) refl h
  wanted_none (ClosedArray a) h = array_none a (is_closed (code_system C) code_tests s a) refl h
  wanted_none (ElementOf a k) h = element_none a k (value_at (code_system C) code_tests s.stored a k) (is_closed (code_system C) code_tests s a) refl refl h
  wanted_none (ElementAt a d) h = keyed_none a d (value_at (code_system C) code_tests s.stored d only) refl h

  none_wanted : (i : Input Place Key) → IsKnown (code_system C) s i → wanted C s i ≡ []
  none_wanted (StoredScalar d) h = let u = held_value (code_system C) code_tests (code_told C) s.stored d only h.0 h.1 in ap (λ (r : Option Scalar). scalar_wanted r d) u.1
  none_wanted (ClosedArray a) h = ap (λ (b : Bool). array_wanted b a) (closed_told (code_system C) code_tests (code_told C) s a h)
  none_wanted (ElementOf a k) h = none_element a k (value_at (code_system C) code_tests s.stored a k) (is_closed (code_system C) code_tests s a) refl refl h
  none_wanted (ElementAt a d) h =
      let u = held_value (code_system C) code_tests (code_told C) s.stored d only h.0 h.1 in
      let same : h.0 ≡ u.0 = one d only h.0 u.0 h.1 (value_held (code_system C) code_tests (code_told C) s.stored d only u.0 u.1) in
      ap (λ (r : Option Scalar). keyed_wanted C s a d r) u.1
      ∙ none_element a (key_of u.0) (value_at (code_system C) code_tests s.stored a (key_of u.0)) (is_closed (code_system C) code_tests s a) refl refl (subst (λ (v : Scalar). IsKnown (code_system C) s (ElementOf a (key_of v))) same h.2)

  all_none : (is : List (Input Place Key)) → flat_map (wanted C s) is ≡ [] → (n : Input Place Key) → In n is → IsKnown (code_system C) s n
  all_none [] h n i = absurd i
  all_none (j ∷ is) h n i =
      let r = append_nil (wanted C s j) (flat_map (wanted C s) is) h in
      elim i [ inl p ↦ subst (λ (z : Input Place Key). IsKnown (code_system C) s z) (sym p) (wanted_none j r.0) | inr g ↦ all_none is r.1 n g ]

  none_all : (is : List (Input Place Key)) → ((n : Input Place Key) → In n is → IsKnown (code_system C) s n) → flat_map (wanted C s) is ≡ []
  none_all [] h = refl
  none_all (j ∷ is) h = nil_append (wanted C s j) (flat_map (wanted C s) is) (none_wanted j (h j (inl refl))) (none_all is (λ n i. h n (inr i)))

  -- a task is enabled exactly where it has no want
  pub enabled_wants : (t : Task) → Enabled C s t → wants C s t ≡ []
  enabled_wants t h = none_all (task_inputs C t) h

  pub wants_enabled : (t : Task) → wants C s t ≡ [] → Enabled C s t
  wants_enabled t h = all_none (task_inputs C t) h

module _ (C : Code) (I : IsCode C) (L : Layout) (es : List Event) (F : Fields) (x : Stands C L es F) where
  one : OneValue (code_system C) code_tests (code_told C) x.state
  one =
      let run = (run_replayed (code_system C) code_tests (code_told C) (code_laws C I) es x.state x.reached).0 in
      one_value (code_system C) (code_laws C I) x.state (log_of (code_system C) es x.state run) (run_follows (code_system C) (code_laws C I) es x.state run)

  nobody : (xs : List (Want ℕ)) → (xs ≡ [] → ⊥) → (ws : List (Want Place)) → ws ≡ [] → AllStand x.names xs ws → ⊥
  nobody [] d ws e a = d refl
  nobody (v ∷ xs) d [] e a = a
  nobody (v ∷ xs) d (w ∷ ws) e a = cons_nil e

  numbers : Distinct (map number_of_item x.state.items)
  numbers = (run_numbered (code_system C) es x.state (run_replayed (code_system C) code_tests (code_told C) (code_laws C I) es x.state x.reached).0).once

  -- no one waits in an item's name exactly where it is enabled
  pub missing_told : (i : CodeItem) → In i x.state.items → (((w : Waiter) → In w F.waiting → w.item ≡ i.number → ⊥) → Enabled C x.state i.task) × (Enabled C x.state i.task → (w : Waiter) → In w F.waiting → w.item ≡ i.number → ⊥)
  missing_told i h = (
    (λ e. elim (none_or (wants C x.state i.task)) [ inl p ↦ wants_enabled C x.state one i.task p | inr d ↦ (let r = x.waits.waits i h d in absurd (e r.0 r.1 r.2)) ]),
    (λ en w g q. (let r = x.waits.missing w g in
        let same : r.0 ≡ i = one_number x.state.items r.0 i numbers r.1 h (r.2 ∙ q) in
        nobody w.missing r.3 (wants C x.state r.0.task) (ap (λ (k : CodeItem). wants C x.state k.task) same ∙ enabled_wants C x.state one i.task en) r.4)),
  )

  there : (d : ℕ) (a : Place) (c : Counted) → In (d, a) x.names → slot_at F.cells d ≡ Some c → (c.reads ≡ readers (code_system C) code_tests x.state a) × (c.writes ≡ writers (code_system C) code_tests x.state a)
  there d a c h q =
      let r = x.data_stand.there d a h in
      let e : r.0 ≡ c = some_same (sym r.1 ∙ q) in
      (subst (λ (y : Counted). y.reads ≡ readers (code_system C) code_tests x.state a) e r.2.reads, subst (λ (y : Counted). y.writes ≡ writers (code_system C) code_tests x.state a) e r.2.writes)

  -- a datum's count of writes tells whether it is closed
  pub writes_told : (d : ℕ) (a : Place) (c : Counted) → In (d, a) x.names → slot_at F.cells d ≡ Some c → (c.writes ≡ 0 → ClosedByRights C x.state a) × (ClosedByRights C x.state a → c.writes ≡ 0)
  writes_told d a c h q =
      let r = there d a c h q in (
        (λ z. counts_closed (code_system C) code_tests (code_told C) x.state a (x.data_stand.naming.there d a h) (sym r.1 ∙ z)),
        (λ k. r.1 ∙ closed_counts (code_system C) code_tests (code_told C) x.state a k),
      )

  -- no datum is there with both counts 0
  pub never_free : (d : ℕ) (c : Counted) → slot_at F.cells d ≡ Some c → c.reads ≡ 0 → c.writes ≡ 0 → ⊥
  never_free d c q r w =
      let a = x.data_stand.only d c q in
      let t = there d a.0 c a.1 q in
      (replayed_bare (code_system C) code_tests (code_told C) es x.state x.reached).places a.0 (x.data_stand.naming.there d a.0 a.1) (counts_free (code_system C) code_tests (code_told C) x.state a.0 (sym t.0 ∙ r) (sym t.1 ∙ w))

-- the first fields stand for the empty history
zero_sound : (z : ℤ) → int_eq (pos 0) z ≡ true → pos 0 ≡ z
zero_sound z h = grind (arith, ints)

zero_same : int_eq (pos 0) (pos 0) ≡ true
zero_same = refl

module _ (C : Code) (L : Layout) where
  first : CodeItem
  first = record { number = 1; task = Main; runs = None }

  main_item : {B : Type 0} {e c : ℕ} {p : List Step} → Main ≡ Item e p c → B
  main_item h = absurd (cc)

  no_event : {B : Type 0} (before : List Event) (e : Event) → [] ≡ before ++ e ∷ [] → B
  no_event [] e h = cons_nil (sym h)
  no_event (b ∷ before) e h = cons_nil (sym h)

  one_row : (n : ℕ) (r : Row) → row_of first_fields.rows n ≡ Some r → record { job = Script; status = Ready } ≡ r
  one_row zero r h = none_some h
  one_row (suc zero) r h = cc
  one_row (suc (suc n)) r h = none_some h

  no_job : {B : Type 0} {k e c : ℕ} (r : Row) → record { job = Script; status = Ready } ≡ r → r.job ≡ Does k e c → B
  no_job r p q = let z : Script ≡ r.job = ap (λ (y : Row). y.job) p in absurd (cc)

  no_wait : {B : Type 0} (r : Row) → record { job = Script; status = Ready } ≡ r → r.status ≡ Waiting → B
  no_wait r p q = let z : Ready ≡ r.status = ap (λ (y : Row). y.status) p in absurd (cc)

  queue_only : (k : Kind) (z : ℤ) (n : ℕ) → In n (first_fields.queue k z) → Queued C (start (code_system C)) k z n
  queue_only Control z n =
      choose (λ (l : List ℕ). In n l → Queued C (start (code_system C)) Control z n) (int_eq (pos 0) z) (1 ∷ []) []
      (λ t i. record { item = record { number = 1; task = Main; runs = None }; there = inl refl; number_is = elim i [ inl p ↦ sym p | inr g ↦ absurd g ]; idle = refl; enabled = λ m j. absurd j; kind_is = refl; priority_is = zero_sound z t })
      (λ t i. absurd i)
  queue_only Leaf z n = λ i. absurd i

  leaf_not : {B : Type 0} → Control ≡ Leaf → B
  leaf_not h = absurd (cc)

  queue_all : (k : Kind) (z : ℤ) (n : ℕ) → Queued C (start (code_system C)) k z n → In n (first_fields.queue k z)
  queue_all k z n q =
      elim q.there [
        | inl p ↦ (let a : Control ≡ k = ap (λ (i : CodeItem). task_kind C i.task) (sym p) ∙ q.kind_is in
            let b : pos 0 ≡ z = ap (λ (i : CodeItem). task_priority C i.task) (sym p) ∙ q.priority_is in
            let c : 1 ≡ n = ap (λ (i : CodeItem). i.number) (sym p) ∙ q.number_is in
            subst (λ (m : ℕ). In m (first_fields.queue k z)) c (subst (λ (y : ℤ). In 1 (first_fields.queue k y)) b (subst (λ (j : Kind). In 1 (first_fields.queue j (pos 0))) a (inl refl))))
        | inr g ↦ absurd g
      ]

  queue_once : (k : Kind) (z : ℤ) → Distinct (first_fields.queue k z)
  queue_once Control z = choose (λ (l : List ℕ). Distinct l) (int_eq (pos 0) z) (1 ∷ []) [] (λ t. (λ i. i, tt)) (λ t. tt)
  queue_once Leaf z = tt

  pub first_stands : Stands C L [] first_fields
  first_stands = record {
    state = start (code_system C);
    reached = refl;
    names = [];
    items = record {
      items = refl;
      next = refl;
      ready = λ n r h m. subst (λ (y : Row). Enabled C (start (code_system C)) (task_of [] y.job)) (one_row n r h) (λ k j. absurd j);
      waiting = λ n r h m en. no_wait r (one_row n r h) m;
      running = refl;
    };
    frames = record {
      there = λ n k e c r h j o. no_job r (one_row n r h) j;
      outermost = λ k f h. none_some h;
      inside = λ k j f h. none_some h;
      depth = λ k f h. none_some h;
      live = λ k f h. none_some h;
      kept = λ k f h. none_some h;
      reads = λ n k e c r f h j. no_job r (one_row n r h) j;
      writes = λ n k e c r f h j. no_job r (one_row n r h) j;
    };
    data_stand = record {
      naming = record { named = λ a h. absurd h; there = λ n a h. absurd h; one_name = λ n m a h. absurd h; one_datum = λ n a b h. absurd h };
      there = λ d a h. absurd h;
      only = λ d c h. none_some h;
    };
    waits = record {
      waits = λ i h d. elim h [ inl p ↦ absurd (d (ap (λ (j : CodeItem). wants C (start (code_system C)) j.task) p)) | inr g ↦ absurd g ];
      missing = λ w h. absurd h;
      once = tt;
    };
    turns = record { kept = λ i h. elim h [ inl p ↦ subst (λ (j : CodeItem). first_fields.turns j.number ≡ kept_turns C (start (code_system C)) j.task) (sym p) refl | inr g ↦ absurd g ]; going = λ i h e c p q. elim h [ inl z ↦ main_item (ap (λ (j : CodeItem). j.task) (sym z) ∙ q) | inr g ↦ absurd g ] };
    queue = record { all = queue_all; only = queue_only; once = queue_once };
    lines = refl;
    fault = refl;
    newly = λ before e old h. no_event before e h;
  }
