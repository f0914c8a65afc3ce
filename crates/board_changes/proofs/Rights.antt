-- What an item's rights stand for, and that it gives up no more than there is.
use Rattle.std.proofs.Common.{◌≡◌, ◌∙◌, refl, sym, ap, subst, inl, inr, ℕ, zero, suc, ◌+◌, ◌≤◌, false, List, [], ◌∷◌, map, Option, None, Some, option_map, arith}
use Rattle.std.specs.Prelude.{if◌then◌else◌, nat_eq}
use Rattle.std.proofs.lemmas.Bool.{cases_Bool}
use Rattle.dataflow.specs.System.{Answer, Effect, Good, In, Opening}
use Rattle.dataflow.specs.Facts.{Made}
use Rattle.dataflow.specs.History.{log_of}
use Rattle.dataflow.specs.Log.{Logged}
use Rattle.dataflow.specs.Machine.{Event, Run}
use Rattle.dataflow.specs.Promises.{tasks_in_items}
use Rattle.dataflow.proofs.Follows.{Follows}
use Rattle.dataflow.proofs.Lists.{in_map, in_split, in_unmap}
use Rattle.dataflow.proofs.Runs.{run_settled}
use Rattle.dataflow.proofs.Settled.{Settled, can_of_comes}
use Rattle.dataflow.proofs.Steps.{run_follows}
use Rattle.data_store.specs.Data.{is_spent}
use Rattle.data_store.specs.Stores.{Store, at}
use Rattle.data_store.specs.declared.datum.Datum.{Datum as StoredDatum}
use Rattle.board_history.specs.Counts.{holds, readers, times, writers}
use Rattle.board_history.specs.Elements.{code_tests}
use Rattle.board_history.specs.Ending.{given_times, job_slot, named_times, slot_is}
use Rattle.board_history.specs.Fields.{Absent, Counted, Does, Fields, Frame, Job, Layout, Over, Row, Script, Slot, path_of, row_of, slot_at, slot_for, task_of}
use Rattle.board_history.specs.Stands.{SlotStands, Stands}
use Rattle.board_history.specs.Static.{opened, rests}
use Rattle.board_history.proofs.Counts.{made_to_read, made_to_write}
use Rattle.board_history.proofs.Elements.{code_told}
use Rattle.board_history.proofs.Ended.{opens_is}
use Rattle.board_history.proofs.EndedBase.{rests_none}
use Rattle.board_history.proofs.EndedNames.{Resolved, in_data, named_told, resolved_at, to_datum, to_literal}
use Rattle.board_history.proofs.Marking.{item, status_is}
use Rattle.board_history.proofs.Next.{nat_sound}
use Rattle.board_history.proofs.Replays.{run_replayed}
use Rattle.board_history.proofs.Rows.{no_row, row_item}
use Rattle.board_history.proofs.Standing.{never_free}
use Rattle.board_history.proofs.Static.{among_times}
use Rattle.board_history.proofs.Tests.{none_some, some_same}
use Rattle.task_code.proofs.Kept.{code_laws}
use Rattle.task_code.specs.Code.{Code, Name, Variable, body, entry}
use Rattle.task_code.specs.Effects.{Item, Task, block}
use Rattle.task_code.specs.Machine.{CodeItem}
use Rattle.task_code.specs.Places.{Constant, Datum, Nowhere, Place, Step, place_at}
use Rattle.task_code.specs.System.{code_system, data_among, task_reads, task_writes}
use Rattle.task_code.specs.Whole.{IsCode}
use Rattle.values.specs.declared.key.Key.{Key}
use Rattle.values.specs.declared.value.Scalar.{Scalar}
use Rattle.board_data.proofs.Cells.{cell_there}
use Rattle.board_data.proofs.Given.{spent_zero}
use Rattle.board_data.specs.Ended.{Covers}
use Rattle.board_data.specs.View.{cell_view, cells_view}

-- what is made is a datum
datum_made : (C : Code) (u : Task) (xs : List (Answer Key Scalar)) (e : Effect Task Place Key Scalar) → (code_system C).effect u xs ≡ Good e → (p : Opening Task Place) (a : Place) → In p e.opens → In a p.makes → (q : List Step) × (v : Variable) × (a ≡ Datum q v)
datum_made C u xs e h p a i m =
    let y = opens_is C u xs e h in
    elim (in_split p (map (block C) (opened C u y.0)) (rests C u y.0) (subst (λ (l : List (Opening Task Place)). In p l) y.1 i)) [
      | inl g ↦ (let b = in_unmap (block C) p (opened C u y.0) g in
          let v = in_unmap (Datum b.0.1) a (body C b.0.0).makes (subst (λ (z : Opening Task Place). In a z.makes) (sym b.2) m) in
          (b.0.1, v.0, sym v.2))
      | inr g ↦ absurd (subst (λ (l : List Place). In a l) (rests_none C u y.0 p g) m)
    ]

in_nowhere : (ds : List Place) → In Nowhere ds → In Nowhere (data_among ds)
in_nowhere [] h = absurd h
in_nowhere (Datum p w ∷ ds) h = elim h [ inl e ↦ inl e | inr g ↦ inr (in_nowhere ds g) ]
in_nowhere (Constant c ∷ ds) h = elim h [ inl e ↦ absurd (cc) | inr g ↦ in_nowhere ds g ]
in_nowhere (Nowhere ∷ ds) h = inl refl

-- one of the tasks holds no more than all
held_of : (C : Code) (rights : Task → List Place) (a : Place) (ts : List Task) (t : Task) → In t ts → times (code_system C) code_tests a (rights t) ≤ holds (code_system C) code_tests rights a ts
held_of C rights a [] t h = absurd h
held_of C rights a (u ∷ ts) t h = elim h [
  | inl e ↦ (let q : times (code_system C) code_tests a (rights t) ≡ times (code_system C) code_tests a (rights u) = ap (λ (z : Task). times (code_system C) code_tests a (rights z)) e in omega arith)
  | inr i ↦ (let r = held_of C rights a ts t i in omega arith)
]

module _ (C : Code) (I : IsCode C) (L : Layout) (es : List Event) (F : Fields) (x : Stands C L es F) where
  abbrev names : List (ℕ × Place)
  names = x.names

  run : Run (code_system C) es x.state
  run = (run_replayed (code_system C) code_tests (code_told C) (code_laws C I) es x.state x.reached).0

  abbrev log : List (Task × Effect Task Place Key Scalar)
  log = log_of (code_system C) es x.state run

  follows : Follows (code_system C) x.state log
  follows = run_follows (code_system C) (code_laws C I) es x.state run

  settled : Settled (code_system C) (Logged (code_system C) log)
  settled = (run_settled (code_system C) (code_laws C I) follows.run).0

  -- what an item has a right to is there
  read_there : (i : CodeItem) → In i x.state.items → (a : Place) → In a (task_reads C i.task) → In a x.state.places
  read_there i h a m =
      follows.store.data_all a i.task (made_to_read (code_system C) code_tests (code_told C) (code_laws C I) (λ b k. k) (Logged (code_system C) log) settled a (follows.items.waits i h).live m) (follows.items.waits i h) (inl m)

  write_there : (i : CodeItem) → In i x.state.items → (a : Place) → In a (task_writes C i.task) → In a x.state.places
  write_there i h a m =
      follows.store.data_all a i.task (made_to_write (code_system C) code_tests (code_told C) (code_laws C I) (Logged (code_system C) log) settled a (follows.items.waits i h).live m) (follows.items.waits i h) (inr m)

  -- a datum has a path and a variable
  datum_only : (a : Place) → In a x.state.places → (q : List Step) × (v : Variable) × (a ≡ Datum q v)
  datum_only a h =
      let m : Made (code_system C) (Logged (code_system C) log) a = follows.store.data_in a h in
      let c = can_of_comes (code_system C) (code_laws C I) (Logged (code_system C) log) settled (settled.comes m.task m.effect m.fact) in
      datum_made C m.task c.answers m.effect c.is m.opening a m.opens m.makes

  no_place : {B : Type 0} (a : Place) → ((q : List Step) (v : Variable) → a ≡ Datum q v → ⊥) → In a x.state.places → B
  no_place a ne h = let p = datum_only a h in absurd (ne p.0 p.1 p.2)

  module _ (n k e c : ℕ) (row : Row) (there : row_of F.rows n ≡ Some row) (job : row.job ≡ Does k e c) (live : row.status ≡ Over → ⊥) where
    home : (f : Frame) × (slot_at F.frames k ≡ Some f) × In e (body C f.body).entries
    home = x.frames.there n k e c row there job live

    its_item : (i : CodeItem) × In i x.state.items × (i.task ≡ Item e (path_of F.frames k) c)
    its_item = by n there
      where
        by : (n : ℕ) → row_of F.rows n ≡ Some row → (i : CodeItem) × In i x.state.items × (i.task ≡ Item e (path_of F.frames k) c)
        by zero h = no_row F.rows row h
        by (suc b) h = elim (status_is row.status) [
          | inl over ↦ absurd (live over)
          | inr y ↦ (item (suc b) (task_of F.frames row.job) y.runs, subst (λ (is : List CodeItem). In (item (suc b) (task_of F.frames row.job) y.runs) is) x.items.items (row_item F.frames 1 F.rows b (suc b) row h y (omega arith)), ap (task_of F.frames) job)
        ]

    path : List Step
    path = path_of F.frames k

    reads_at : List Place
    reads_at = map (place_at C (path_of F.frames k)) (entry C e).reads

    reads_right : (a : Place) → In a (data_among (map (place_at C (path_of F.frames k)) (entry C e).reads)) → In a x.state.places
    reads_right a g = read_there its_item.0 its_item.1 a (subst (λ (u : Task). In a (task_reads C u)) (sym its_item.2) g)

    at_read : (r : Name) → In r (entry C e).reads → (a : Place) → place_at C (path_of F.frames k) r ≡ a → In a (map (place_at C (path_of F.frames k)) (entry C e).reads)
    at_read r i a z = subst (λ (b : Place). In b (map (place_at C (path_of F.frames k)) (entry C e).reads)) z (in_map (place_at C (path_of F.frames k)) r (entry C e).reads i)

    at_write : (r : Name) → In r (entry C e).writes → (a : Place) → place_at C (path_of F.frames k) r ≡ a → In a x.state.places
    at_write r i a z = write_there its_item.0 its_item.1 a (subst (λ (u : Task). In a (task_writes C u)) (sym its_item.2) (subst (λ (b : Place). In b (map (place_at C (path_of F.frames k)) (entry C e).writes)) z (in_map (place_at C (path_of F.frames k)) r (entry C e).writes i)))

    own_slot : (r : Name) → slot_for L F.frames k home.0.body r ≡ job_slot C L F.frames (Does k e c) r
    own_slot r = sym (ap (λ (z : Option Frame). elim z [ None ↦ Absent | Some g ↦ slot_for L F.frames k g.body r ]) home.1)

    pub reads_stand : (r : Name) → In r (entry C e).reads → Resolved C x.names (job_slot C L F.frames (Does k e c) r) (place_at C (path_of F.frames k) r)
    reads_stand r i = resolved_at C x.names _ _ _ _ (own_slot r) refl (by (place_at C (path_of F.frames k) r) refl (x.frames.reads n k e c row home.0 there job live home.1 r i))
      where
        by : (a : Place) → place_at C (path_of F.frames k) r ≡ a → SlotStands C x.state x.names (slot_for L F.frames k home.0.body r) a → Resolved C x.names (slot_for L F.frames k home.0.body r) (place_at C (path_of F.frames k) r)
        by (Datum p v) z g = let s = g (reads_right (Datum p v) (in_data p v (map (place_at C (path_of F.frames k)) (entry C e).reads) (at_read r i (Datum p v) z))) in to_datum s.0 p v s.1 z s.2
        by (Constant v) z g = to_literal g.0 g.1 v g.2 z g.3
        by Nowhere z g = no_place Nowhere (λ p v y. absurd (cc)) (reads_right Nowhere (in_nowhere (map (place_at C (path_of F.frames k)) (entry C e).reads) (at_read r i Nowhere z)))

    pub writes_stand : (r : Name) → In r (entry C e).writes → Resolved C x.names (job_slot C L F.frames (Does k e c) r) (place_at C (path_of F.frames k) r)
    writes_stand r i = resolved_at C x.names _ _ _ _ (own_slot r) refl (by (place_at C (path_of F.frames k) r) refl (x.frames.writes n k e c row home.0 there job live home.1 r i))
      where
        by : (a : Place) → place_at C (path_of F.frames k) r ≡ a → SlotStands C x.state x.names (slot_for L F.frames k home.0.body r) a → Resolved C x.names (slot_for L F.frames k home.0.body r) (place_at C (path_of F.frames k) r)
        by (Datum p v) z g = let s = g (at_write r i (Datum p v) z) in to_datum s.0 p v s.1 z s.2
        by (Constant v) z g = no_place (Constant v) (λ p v y. absurd (cc)) (at_write r i (Constant v) z)
        by Nowhere z g = no_place Nowhere (λ p v y. absurd (cc)) (at_write r i Nowhere z)

    its_task : In (Item e (path_of F.frames k) c) (tasks_in_items (code_system C) x.state.items)
    its_task = subst (λ (t : Task). In t (tasks_in_items (code_system C) x.state.items)) its_item.2 (in_map (λ (i : CodeItem). i.task) its_item.0 x.state.items its_item.1)

    -- a datum that is there has a count for each of the item's names that stands for it
    pub reads_few : (d : ℕ) (y : Counted) → slot_at F.cells d ≡ Some y → named_times (job_slot C L F.frames (Does k e c)) d (entry C e).reads ≤ y.reads
    reads_few d y h =
        let a = x.data_stand.only d y h in
        let t = x.data_stand.there d a.0 a.1 in
        let same : t.0 ≡ y = some_same (sym t.1 ∙ h) in
        let p = datum_only a.0 (x.data_stand.naming.there d a.0 a.1) in
        let i : In (d, Datum p.0 p.1) x.names = subst (λ (b : Place). In (d, b) x.names) p.2 a.1 in
        let told = named_told C x.names x.data_stand.naming.one_name x.data_stand.naming.one_datum d p.0 p.1 i (job_slot C L F.frames (Does k e c)) (path_of F.frames k) (entry C e).reads reads_stand in
        let among = among_times C p.0 p.1 (map (place_at C (path_of F.frames k)) (entry C e).reads) in
        let most = held_of C (task_reads C) (Datum p.0 p.1) (tasks_in_items (code_system C) x.state.items) (Item e (path_of F.frames k) c) its_task in
        let count : t.0.reads ≡ readers (code_system C) code_tests x.state (Datum p.0 p.1) = t.2.reads ∙ ap (readers (code_system C) code_tests x.state) p.2 in
        let now : t.0.reads ≡ y.reads = ap (λ (z : Counted). z.reads) same in
        omega (arith, told, among, most, count, now)

    pub writes_few : (d : ℕ) (y : Counted) → slot_at F.cells d ≡ Some y → named_times (job_slot C L F.frames (Does k e c)) d (entry C e).writes ≤ y.writes
    writes_few d y h =
        let a = x.data_stand.only d y h in
        let t = x.data_stand.there d a.0 a.1 in
        let same : t.0 ≡ y = some_same (sym t.1 ∙ h) in
        let p = datum_only a.0 (x.data_stand.naming.there d a.0 a.1) in
        let i : In (d, Datum p.0 p.1) x.names = subst (λ (b : Place). In (d, b) x.names) p.2 a.1 in
        let told = named_told C x.names x.data_stand.naming.one_name x.data_stand.naming.one_datum d p.0 p.1 i (job_slot C L F.frames (Does k e c)) (path_of F.frames k) (entry C e).writes writes_stand in
        let most = held_of C (task_writes C) (Datum p.0 p.1) (tasks_in_items (code_system C) x.state.items) (Item e (path_of F.frames k) c) its_task in
        let count : t.0.writes ≡ writers (code_system C) code_tests x.state (Datum p.0 p.1) = t.2.writes ∙ ap (writers (code_system C) code_tests x.state) p.2 in
        let now : t.0.writes ≡ y.writes = ap (λ (z : Counted). z.writes) same in
        omega (arith, told, most, count, now)

  -- a number without a datum is the one of no name
  pub not_led : (d : ℕ) → slot_at F.cells d ≡ None → (s : Slot) (a : Place) → Resolved C x.names s a → slot_is d s ≡ false
  not_led d h s a (to_datum e q v p g i) = elim (cases_Bool (nat_eq d e)) [
    | inl t ↦ (let y = x.data_stand.there e (Datum q v) i in
        let z : None ≡ Some y.0 = sym h ∙ ap (slot_at F.cells) (nat_sound d e t) ∙ y.1 in none_some z)
    | inr f ↦ ap (slot_is d) p ∙ f
  ]
  not_led d h s a (to_literal e k v p g l) = ap (slot_is d) p

  none_named : (d : ℕ) → slot_at F.cells d ≡ None → (f : Name → Slot) (p : List Step) (rs : List Name) → ((r : Name) → In r rs → Resolved C x.names (f r) (place_at C p r)) → named_times f d rs ≡ 0
  none_named d h f p [] all = refl
  none_named d h f p (r ∷ rs) all =
      let e = not_led d h (f r) (place_at C p r) (all r (inl refl)) in
      let ih = none_named d h f p rs (λ z i. all z (inr i)) in
      ap (λ b. (if b then 1 else 0) + named_times f d rs) e ∙ zero_plus (named_times f d rs) ∙ ih
    where
      zero_plus : (n : ℕ) → 0 + n ≡ n
      zero_plus n = omega arith

  -- an item gives up no more than there is
  pub covers : (n : ℕ) (row : Row) → row_of F.rows n ≡ Some row → (row.status ≡ Over → ⊥) → (os : List (Opening Task Place)) (s : Store) → F.cells ≡ cells_view s.cells →
      Covers (λ d. given_times C L (λ e. e.reads) F.frames d row.job os) (λ d. given_times C L (λ e. e.writes) F.frames d row.job os) s
  covers n row there live os s cells = by row.job refl os
    where
      cell : (d : ℕ) (y : StoredDatum) → at s d ≡ Some y → slot_at F.cells d ≡ Some (cell_view y)
      cell d y e = ap (λ (cs : List (Option Counted)). slot_at cs d) cells ∙ cell_there s.cells d ∙ ap (option_map cell_view) e

      no_cell : (d : ℕ) → at s d ≡ None → slot_at F.cells d ≡ None
      no_cell d e = ap (λ (cs : List (Option Counted)). slot_at cs d) cells ∙ cell_there s.cells d ∙ ap (option_map cell_view) e

      spent : (d : ℕ) (y : StoredDatum) → at s d ≡ Some y → is_spent y ≡ false
      spent d y e = elim (cases_Bool (is_spent y)) [
        | inl t ↦ (let z = spent_zero y t in absurd (never_free C I L es F x d (cell_view y) (cell d y e) z.0 z.1))
        | inr f ↦ f
      ]

      zero_least : (n : ℕ) → 0 ≤ n
      zero_least n = omega arith

      by : (j : Job) → row.job ≡ j → (os : List (Opening Task Place)) → Covers (λ d. given_times C L (λ e. e.reads) F.frames d j os) (λ d. given_times C L (λ e. e.writes) F.frames d j os) s
      by j q (o ∷ os) = record { held = λ d y e. (spent d y e, zero_least y.reads, zero_least y.writes); absent = λ d e. (refl, refl) }
      by Script q [] = record { held = λ d y e. (spent d y e, zero_least y.reads, zero_least y.writes); absent = λ d e. (refl, refl) }
      by (Does k e c) q [] = record {
        held = λ d y h. (spent d y h, reads_few n k e c row there q live d (cell_view y) (cell d y h), writes_few n k e c row there q live d (cell_view y) (cell d y h));
        absent = λ d h. (none_named d (no_cell d h) (job_slot C L F.frames (Does k e c)) (path_of F.frames k) (entry C e).reads (reads_stand n k e c row there q live), none_named d (no_cell d h) (job_slot C L F.frames (Does k e c)) (path_of F.frames k) (entry C e).writes (writes_stand n k e c row there q live));
      }
