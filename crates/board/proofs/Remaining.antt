-- The items that have not ended, as a board shows them.
use Rattle.std.proofs.Common.{◌≡◌, ◌⊎◌, ◌↔◌, inl, inr, ℕ, zero, suc, ◌+◌, ◌<◌, ◌≤◌, Bool, true, false, List, [], ◌∷◌, length, map, refl, sym, ap, ◌∙◌, subst, Option, None, Some, Ok, Err, arith}
use Rattle.std.specs.Prelude.{IfNone, IfOk, IfSome, Result, Vec, if◌then◌else◌, option_map, reverse}
use Rattle.std.proofs.lemmas.List.{length-map, reverse-reverse}
use Rattle.dataflow.specs.System.{In, Input}
use Rattle.dataflow.specs.Machine.{Event, IsKnown}
use Rattle.board_history.specs.Fields.{Counted, Does, Frame, Job, Over, Ready, Row, Running, Script, Status, Waiting, Want, is_over, is_running, item_before, items_from, path_of, row_of, running_in, slot_at, task_of}
use Rattle.board_history.specs.Stands.{Stands}
use Rattle.board_history.proofs.EndedNames.{Resolved}
use Rattle.board_history.proofs.Marking.{IsItem, RowIs, item, status_is}
use Rattle.board_history.proofs.Tests.{none_some, some_same, yes_no}
use Rattle.task_code.specs.Code.{Code, Name, Need, entry}
use Rattle.task_code.specs.Effects.{Item, Main, Task}
use Rattle.task_code.specs.Machine.{CodeItem, CodeState, Enabled}
use Rattle.task_code.specs.Places.{Place as DataPlace, Step as CodeStep, place_at}
use Rattle.task_code.specs.Runs.{IsBlockedAt, counts}
use Rattle.task_code.specs.System.{code_system, inputs_at}
use Rattle.task_code.specs.View.{event_view}
use Rattle.values.specs.declared.key.Key.{Key}
use Rattle.board_program.specs.Spots.{layout_of}
use Rattle.board_program.specs.Tables.{wanted_in}
use Rattle.board_data.specs.View.{cells_view}
use Rattle.board_data.specs.Wanted.{wanted_missed}
use Rattle.board_data.specs.declared.inputs.Environment.{Environment}
use Rattle.board_instances.specs.Names.{led_slot}
use Rattle.board_instances.specs.View.{frames_view, row_view, rows_view, status_view, step_view}
use Rattle.board_instances.specs.declared.item.ItemStatus.{ItemStatus}
use Rattle.board_instances.specs.declared.item.ItemStatus.TheVariants as Marks
use Rattle.paths.specs.declared.steps.Step.{Step}
use Rattle.board.specs.History.{state_of}
use Rattle.board.specs.Inside.{IsSound, seen_of}
use Rattle.board.specs.Remains.{AreSoManyRunning, HasStatus, IsBlockedItem, IsLeft, IsNeedKnown, IsNoneLeft, IsPathOf, Sees, StandsAt}
use Rattle.board.specs.Stuck.{Place, at_place, blocked_job, blocked_row}
use Rattle.board.specs.View.{fields_view}
use Rattle.board.specs.declared.board.Board.TheInside.{Inside}
use Rattle.board.specs.declared.remains.LeftItem.{LeftItem}
use Rattle.board.proofs.BlockedBy.{blocked_here, home, job_offset, led, res, same_missed}
use Rattle.board.proofs.Misses.{any_told}
use Rattle.board.proofs.Moves.{item_there, ready_item, row_there, running_item, waiting_item}
use Rattle.board.proofs.Own.{state_here}
use Rattle.board.proofs.Showing.{live_status}

abbrev pub row_as : (k e c : ℕ) → Status → Row
row_as k e c m = record { job = Does k e c; status = m }

task_parts : {e n c d : ℕ} {p q : List CodeStep} → Item e p c ≡ Item n q d → (e ≡ n) × (p ≡ q)
task_parts h = (cc (h), cc (h))

main_item : {A : Type 0} {n c : ℕ} {p : List CodeStep} → Main ≡ Item n p c → A
main_item h = absurd (cc (h))

live_item : (m : ItemStatus) → (m ≡ Marks.Over → ⊥) → IsItem (status_view m)
live_item Marks.Waiting live = waiting_item
live_item Marks.Ready live = ready_item
live_item (Marks.Running w) live = running_item w
live_item Marks.Over live = absurd (live refl)

module _ (a : Inside) (s : IsSound a) where
  abbrev C : Code
  C = a.program

  abbrev es : List Event
  es = map event_view a.history.items

  abbrev fs : List (Option Frame)
  fs = frames_view a.core.data_state.instances.slots

  abbrev rows : List Row
  rows = rows_view a.core.items.rows.items

  abbrev x : Stands C (layout_of C) es (fields_view s.stand.told a.core)
  x = s.stand.stands

  here : state_of C es ≡ x.state
  here = state_here C s.whole es a.core s.stand

  item_seen : (i : CodeItem) → In i x.state.items → In i (state_of C es).items
  item_seen i h = subst (λ (t : CodeState). In i t.items) (sym here) h

  seen_item : (i : CodeItem) → In i (state_of C es).items → In i x.state.items
  seen_item i h = subst (λ (t : CodeState). In i t.items) here h

  -- the row of an item of an entry
  module _ (n k e c : ℕ) where
    abbrev task : Task
    task = Item e (path_of fs k) c

    item_at : (m : Status) (y : IsItem m) → row_of rows n ≡ Some (row_as k e c m) → In (item n task y.runs) (state_of C es).items
    item_at m y there = item_seen (item n task y.runs) (item_there C s.whole (layout_of C) es (fields_view s.stand.told a.core) x n (row_as k e c m) there y)

    pub stands_as : (m : Status) (y : IsItem m) → row_of rows n ≡ Some (row_as k e c m) → StandsAt (seen_of a) n e (path_of fs k)
    stands_as m y there = record { item = item n task y.runs; there = item_at m y there; number_is = refl; chunk = c; is = refl }

    pub has_status : (m : ItemStatus) → row_of rows n ≡ Some (row_as k e c (status_view m)) → (m ≡ Marks.Over → ⊥) → HasStatus (seen_of a) n m
    has_status Marks.Waiting there live = (
      item n task None,
      item_at Waiting waiting_item there,
      refl,
      λ en. x.items.waiting n (row_as k e c Waiting) there refl (subst (λ (t : CodeState). Enabled C t task) here en),
    )
    has_status Marks.Ready there live = (
      item n task None,
      item_at Ready ready_item there,
      refl,
      refl,
      subst (λ (t : CodeState). Enabled C t task) (sym here) (x.items.ready n (row_as k e c Ready) there refl),
    )
    has_status (Marks.Running w) there live = (item n task (Some w), item_at (Running w) (running_item w) there, refl, refl)
    has_status Marks.Over there live = absurd (live refl)

    -- an item of this number is that of the row
    pub stands_here : (m : Status) → row_of rows n ≡ Some (row_as k e c m) → (i : ℕ) (path : List CodeStep) → StandsAt (seen_of a) n i path → (e ≡ i) × (path_of fs k ≡ path)
    stands_here m there i path st =
        let f = row_there C s.whole (layout_of C) es (fields_view s.stand.told a.core) x st.item (seen_item st.item st.there) in
        let p = f.number_is in
        let q = st.number_is in
        let place : suc f.at ≡ n = omega arith in
        let same : f.row ≡ row_as k e c m = some_same (sym f.there ∙ ap (λ (z : ℕ). row_of rows z) place ∙ there) in
        task_parts (sym (f.task_is ∙ ap (λ (r : Row). task_of fs r.job) same) ∙ st.is)

  -- the row of an item
  pub none_here : (n : ℕ) → ((k e c : ℕ) (m : Status) → row_of rows n ≡ Some (row_as k e c m) → m ≡ Over) → IsNoneLeft (seen_of a) n
  none_here n h i path st = (let f = row_there C s.whole (layout_of C) es (fields_view s.stand.told a.core) x st.item (seen_item st.item st.there) in by f f.row.job refl)
    where
      by : (f : RowIs fs rows 1 st.item) → (j : Job) → f.row.job ≡ j → ⊥
      by f Script q = main_item (sym (f.task_is ∙ ap (task_of fs) q) ∙ st.is)
      by f (Does k e c) q =
          let p = f.number_is in
          let g = st.number_is in
          let place : suc f.at ≡ n = omega arith in
          f.not_over (h k e c f.row.status (sym (ap (λ (z : ℕ). row_of rows z) place) ∙ f.there ∙ ap (λ (j : Job). Some (record { job = j; status = f.row.status })) q))

  pub left_told : (n : ℕ) (o : Option LeftItem) → IfSome o (λ l. row_of rows n ≡ Some (row_as l.instance l.entry l.chunk (status_view l.status))) → IfSome o (λ l. l.status ≡ Marks.Over → ⊥)
      → IfSome o (λ l. IsLeft (seen_of a) n l.entry × HasStatus (seen_of a) n l.status)
  left_told n None r live = tt
  left_told n (Some l) r live = (
    (path_of fs l.instance, stands_as n l.instance l.entry l.chunk (status_view l.status) (live_item l.status live) r),
    has_status n l.instance l.entry l.chunk l.status r live,
  )

  pub only_told : (n : ℕ) (o : Option LeftItem) → IfSome o (λ l. row_of rows n ≡ Some (row_as l.instance l.entry l.chunk (status_view l.status))) → IfSome o (λ l. (i : ℕ) → IsLeft (seen_of a) n i → i ≡ l.entry)
  only_told n None r = tt
  only_told n (Some l) r = λ i left. sym (stands_here n l.instance l.entry l.chunk (status_view l.status) r i left.0 left.1).0

  pub none_told : (n : ℕ) (o : Option LeftItem) → IfNone o ((k e c : ℕ) (m : Status) → row_of rows n ≡ Some (row_as k e c m) → m ≡ Over) → IfNone o (IsNoneLeft (seen_of a) n)
  none_told n (Some l) h = tt
  none_told n None h = none_here n h

  -- its path
  pub path_told : {E A : Type 0} (n : ℕ) (l : LeftItem) → row_of rows n ≡ Some (row_as l.instance l.entry l.chunk (status_view l.status)) → (r : Result (Vec Step A) E)
      → IfOk r (λ steps. map step_view steps.items ≡ reverse (path_of fs l.instance)) → IfOk r (λ steps. IsPathOf (seen_of a) n steps.items)
  path_told n l there (Err e) h = tt
  path_told n l there (Ok v) h = λ i path st.
      let same = stands_here n l.instance l.entry l.chunk (status_view l.status) there i path st in
      sym same.1 ∙ sym (reverse-reverse (path_of fs l.instance)) ∙ ap reverse (sym h)

  pub no_path : (n : ℕ) (steps : List Step) → IsNoneLeft (seen_of a) n → IsPathOf (seen_of a) n steps
  no_path n steps h = λ i path st. absurd (h i path st)

  -- the number of an entry's item
  pub entry_told : (n : ℕ) (r : Row) → row_of rows n ≡ Some r → (k e c : ℕ) → r.job ≡ Does k e c → (i : ℕ) → IsLeft (seen_of a) n i → ◌≡◌ {A = Option ℕ} (Some e) (Some i)
  entry_told n r there k e c q i left = ap Some (stands_here n k e c r.status (there ∙ ap (λ (j : Job). Some (record { job = j; status = r.status })) q) i left.0 left.1).0

  pub script_told : (n : ℕ) (r : Row) → row_of rows n ≡ Some r → r.job ≡ Script → IsNoneLeft (seen_of a) n
  script_told n r there q = none_here n (λ k e c m h. script_does (sym q ∙ ap (λ (z : Row). z.job) (some_same (sym there ∙ h))))
    where
      script_does : {A : Type 0} {k e c : ℕ} → Script ≡ Does k e c → A
      script_does h = absurd (cc (h))

  pub nothing_told : (n : ℕ) → row_of rows n ≡ None → IsNoneLeft (seen_of a) n
  nothing_told n there = none_here n (λ k e c m h. none_some (sym there ∙ h))

  -- numbers go up to the number of rows
  within : (rs : List Row) (n : ℕ) (r : Row) → row_of rs n ≡ Some r → n ≤ length rs
  within [] n r h = none_some h
  within (q ∷ rs) zero r h = none_some h
  within (q ∷ rs) (suc zero) r h = omega arith
  within (q ∷ rs) (suc (suc m)) r h = (let i = within rs (suc m) r h in omega arith)

  next_is : (state_of C es).next ≡ suc (length rows)
  next_is = ap (λ (t : CodeState). t.next) here ∙ x.items.next

  pub past_told : {A : Type 0} (n : ℕ) (r : Row) → row_of rows n ≡ Some r → (state_of C es).next ≤ n → A
  past_told n r there h = (let i = within rows n r there in let q = next_is in absurd (omega arith))

  pub count_told : (n : ℕ) → n ≡ length a.core.items.rows.items → (state_of C es).next ≡ n + 1
  count_told n h = (let q = next_is in let l = length-map a.core.items.rows.items row_view in omega arith)

  pub left_within : (n : ℕ) → n ≡ length a.core.items.rows.items → (number i : ℕ) → IsLeft (seen_of a) number i → (0 < number) × (number ≤ n)
  left_within n h number i left =
      let st = left.1 in
      let f = row_there C s.whole (layout_of C) es (fields_view s.stand.told a.core) x st.item (seen_item st.item st.there) in
      let p = f.number_is in
      let q = st.number_is in
      let w = within rows (suc f.at) f.row f.there in
      let l = length-map a.core.items.rows.items row_view in
      (omega arith, omega arith)

  -- the items that run
  is_run : (m : Status) → (is_running m ≡ true) ⊎ (is_running m ≡ false)
  is_run Waiting = inr refl
  is_run Ready = inr refl
  is_run (Running w) = inl refl
  is_run Over = inr refl

  abbrev run_of : (n : ℕ) (t : Task) → Status → List CodeItem → List CodeItem
  run_of n t (Running w) is = item n t (Some w) ∷ is
  run_of n t _ is = is

  abbrev runners : (n : ℕ) → List Row → List CodeItem
  runners n [] = []
  runners n (r ∷ rs) = run_of n (task_of fs r.job) r.status (runners (suc n) rs)

  run_length : (n : ℕ) (t : Task) (m : Status) (is : List CodeItem) (k : ℕ) → length is ≡ k → length (run_of n t m is) ≡ (if is_running m then 1 else 0) + k
  run_length n t Waiting is k h = omega (arith, h)
  run_length n t Ready is k h = omega (arith, h)
  run_length n t (Running w) is k h = omega (arith, h)
  run_length n t Over is k h = omega (arith, h)

  runners_length : (n : ℕ) (rs : List Row) → length (runners n rs) ≡ running_in rs
  runners_length n [] = refl
  runners_length n (r ∷ rs) = run_length n (task_of fs r.job) r.status (runners (suc n) rs) (running_in rs) (runners_length (suc n) rs)

  abbrev Runs : CodeItem → Type 0
  Runs i = (w : ℕ) × (i.runs ≡ Some w)

  idle_runs : {A : Type 0} (n : ℕ) (t : Task) (i : CodeItem) → i ≡ item n t None → Runs i → A
  idle_runs n t i h r = none_some (ap (λ (j : CodeItem). j.runs) (sym h) ∙ r.1)

  run_in : (n : ℕ) (t : Task) (m : Status) (is js : List CodeItem) (i : CodeItem) → (In i is ↔ (In i js × Runs i)) → In i (run_of n t m is) ↔ (In i (item_before n t m js) × Runs i)
  run_in n t Waiting is js i h = (λ z. (inr (h.0 z).0, (h.0 z).1), λ z. elim z.0 [ inl e ↦ idle_runs n t i e z.1 | inr g ↦ h.1 (g, z.1) ])
  run_in n t Ready is js i h = (λ z. (inr (h.0 z).0, (h.0 z).1), λ z. elim z.0 [ inl e ↦ idle_runs n t i e z.1 | inr g ↦ h.1 (g, z.1) ])
  run_in n t (Running w) is js i h = (
    λ z. elim z [ inl e ↦ (inl e, (w, ap (λ (j : CodeItem). j.runs) e)) | inr g ↦ (inr (h.0 g).0, (h.0 g).1) ],
    λ z. elim z.0 [ inl e ↦ inl e | inr g ↦ inr (h.1 (g, z.1)) ],
  )
  run_in n t Over is js i h = h

  runners_in : (n : ℕ) (rs : List Row) (i : CodeItem) → In i (runners n rs) ↔ (In i (items_from fs n rs) × Runs i)
  runners_in n [] i = (λ z. absurd z, λ z. absurd (z.0))
  runners_in n (r ∷ rs) i = run_in n (task_of fs r.job) r.status (runners (suc n) rs) (items_from fs (suc n) rs) i (runners_in (suc n) rs i)

  pub running_told : AreSoManyRunning (state_of C es).items a.core.items.running
  running_told = (
    runners 1 rows,
    runners_length 1 rows ∙ sym x.items.running,
    λ i. subst (λ (js : List CodeItem). In i (runners 1 rows) ↔ (In i js × Runs i)) (x.items.items ∙ ap (λ (t : CodeState). t.items) (sym here)) (runners_in 1 rows i),
  )

  -- where its statement is blocked
  abbrev cs : List (Option Counted)
  cs = cells_view a.core.data_state.store.cells

  over_is : (m : Status) → is_over m ≡ true → m ≡ Over
  over_is Waiting h = absurd (cc (h))
  over_is Ready h = absurd (cc (h))
  over_is (Running w) h = absurd (cc (h))
  over_is Over h = refl

  over_told : (n : ℕ) (r : Row) → row_of rows n ≡ Some r → r.status ≡ Over → IsNoneLeft (seen_of a) n
  over_told n r there o = none_here n (λ k e c m g. ap (λ (z : Row). z.status) (some_same (sym g ∙ there)) ∙ o)

  row_of_job : (n k e c : ℕ) (r : Row) → row_of rows n ≡ Some r → r.job ≡ Does k e c → row_of rows n ≡ Some (row_as k e c r.status)
  row_of_job n k e c r there q = there ∙ ap (λ (j : Job). Some (record { job = j; status = r.status })) q

  stands_row : (n k e c : ℕ) (r : Row) → row_of rows n ≡ Some r → r.job ≡ Does k e c → (r.status ≡ Over → ⊥) → StandsAt (seen_of a) n e (path_of fs k)
  stands_row n k e c r there q live = elim (status_is r.status) [ inl over ↦ absurd (live over) | inr y ↦ stands_as n k e c r.status y (row_of_job n k e c r there q) ]

  not_over : (m : Status) → is_over m ≡ false → (m ≡ Over → ⊥)
  not_over m h e = yes_no (ap is_over e) h

  pub blocked_told : (n : ℕ) (r : Row) → row_of rows n ≡ Some r → (p : Place) → blocked_row C fs cs r ≡ Some p → IsBlockedItem (seen_of a) n p.at
  blocked_told n r there p h = by_status (is_over r.status) refl h
    where
      by_job : (j : Job) → r.job ≡ j → (r.status ≡ Over → ⊥) → blocked_job C fs cs j ≡ Some p → IsBlockedItem (seen_of a) n p.at
      by_job Script q live g = none_some g
      by_job (Does k e c) q live g =
          let told = job_offset C s.whole es a.core s.stand n k e c r there q live p g in (
            e,
            (path_of fs k, stands_row n k e c r there q live, told.0, subst (λ (t : CodeState). IsBlockedAt C (IsKnown (code_system C) t) (path_of fs k) (entry C e).act (entry C e).at p.at) (sym here) told.1),
          )

      by_status : (b : Bool) → is_over r.status ≡ b → (if b then None else blocked_job C fs cs r.job) ≡ Some p → IsBlockedItem (seen_of a) n p.at
      by_status true q g = none_some g
      by_status false q g = by_job r.job refl (not_over r.status q) g

  pub not_blocked : (n : ℕ) (r : Row) → row_of rows n ≡ Some r → blocked_row C fs cs r ≡ None → (at : ℕ) → IsBlockedItem (seen_of a) n at → ⊥
  not_blocked n r there h at b = by (is_over r.status) refl r.job refl
    where
      by : (v : Bool) → is_over r.status ≡ v → (j : Job) → r.job ≡ j → ⊥
      by true o j q = over_told n r there (over_is r.status o) b.0 b.1.0 b.1.1
      by false o Script q = script_told n r there q b.0 b.1.0 b.1.1
      by false o (Does k e c) q =
          let live = not_over r.status o in
          let same = stands_here n k e c r.status (row_of_job n k e c r there q) b.0 b.1.0 b.1.1 in
          let counted = subst (λ z. counts (entry C z).act ≡ true) (sym same.0) b.1.2 in
          let stands = subst (λ z. IsBlockedAt C (IsKnown (code_system C) x.state) (path_of fs k) (entry C z).act (entry C z).at at) (sym same.0) (subst (λ z. IsBlockedAt C (IsKnown (code_system C) x.state) z (entry C b.0).act (entry C b.0).at at) (sym same.1) (subst (λ (t : CodeState). IsBlockedAt C (IsKnown (code_system C) t) b.1.0 (entry C b.0).act (entry C b.0).at at) here b.1.3)) in
          none_some (sym h ∙ ap (λ z. if z then None else blocked_job C fs cs r.job) o ∙ ap (blocked_job C fs cs) q ∙ blocked_here C s.whole es a.core s.stand n k e c r there q live at counted stands)

  pub offset_found : (n : ℕ) (r : Row) → row_of rows n ≡ Some r → (o : Option (ℕ × ℕ)) (f : Option ℕ) → f ≡ option_map (λ (q : ℕ × ℕ). q.1) o
      → option_map (λ (q : ℕ × ℕ). at_place q.1 (path_of fs q.0)) o ≡ blocked_row C fs cs r → IfSome f (λ at. IsBlockedItem (seen_of a) n at)
  offset_found n r there None f e h = subst (λ (z : Option ℕ). IfSome z (λ at. IsBlockedItem (seen_of a) n at)) (sym e) tt
  offset_found n r there (Some q) f e h =
      subst (λ (z : Option ℕ). IfSome z (λ at. IsBlockedItem (seen_of a) n at)) (sym e) (blocked_told n r there (at_place q.1 (path_of fs q.0)) (sym h))

  pub no_offset : (n : ℕ) (r : Row) → row_of rows n ≡ Some r → (o : Option (ℕ × ℕ)) (f : Option ℕ) → f ≡ option_map (λ (q : ℕ × ℕ). q.1) o
      → option_map (λ (q : ℕ × ℕ). at_place q.1 (path_of fs q.0)) o ≡ blocked_row C fs cs r → IfNone f ((at : ℕ) → IsBlockedItem (seen_of a) n at → ⊥)
  no_offset n r there None f e h = subst (λ (z : Option ℕ). IfNone z ((at : ℕ) → IsBlockedItem (seen_of a) n at → ⊥)) (sym e) (not_blocked n r there (sym h))
  no_offset n r there (Some q) f e h = subst (λ (z : Option ℕ). IfNone z ((at : ℕ) → IsBlockedItem (seen_of a) n at → ⊥)) (sym e) tt

  pub nothing_blocked : (n : ℕ) → row_of rows n ≡ None → (at : ℕ) → IsBlockedItem (seen_of a) n at → ⊥
  nothing_blocked n there at b = nothing_told n there b.0 b.1.0 b.1.1

  -- what its environment answers
  needed : (n k e c b : ℕ) → ((r : Name) → In r (entry C e).reads → Resolved C x.names (led C s.whole fs cs k b r) (place_at C (path_of fs k) r)) → (m : Need) → In m (entry C e).needs
      → (wanted_missed C cs (led_slot fs k) (wanted_in C b m) ≡ []) ↔ IsNeedKnown (seen_of a) (path_of fs k) m
  needed n k e c b res m inn =
      subst (λ (t : CodeState). (wanted_missed C cs (led_slot fs k) (wanted_in C b m) ≡ []) ↔ ((y : Input DataPlace Key) → In y (inputs_at C (path_of fs k) m) → IsKnown (code_system C) t y)) (sym here)
      (subst (λ (ws : List (Want ℕ)). (ws ≡ []) ↔ ((y : Input DataPlace Key) → In y (inputs_at C (path_of fs k) m) → IsKnown (code_system C) x.state y)) (sym (same_missed C s.whole fs cs k b m))
      (any_told C s.whole (layout_of C) es (fields_view s.stand.told a.core) x e (path_of fs k) (led C s.whole fs cs k b) res m inn))

  pub sees_told : (n : ℕ) (l : LeftItem) → row_of rows n ≡ Some (row_as l.instance l.entry l.chunk (status_view l.status)) → (l.status ≡ Marks.Over → ⊥) → (v : Environment)
      → v.program.now ≡ C → v.instances.now ≡ a.core.data_state.instances → v.store.now ≡ a.core.data_state.store → v.at ≡ l.instance → Sees (seen_of a) n v
  sees_told n l there live v program instances store at =
      let f = home C s.whole es a.core s.stand n l.instance l.entry l.chunk (row_as l.instance l.entry l.chunk (status_view l.status)) there refl (live_status l.status live) in
      record {
        i = l.entry;
        path = path_of fs l.instance;
        stands = stands_as n l.instance l.entry l.chunk (status_view l.status) (live_item l.status live) there;
        only = λ j p st. stands_here n l.instance l.entry l.chunk (status_view l.status) there j p st;
        program = program;
        body = f.0.body;
        body_is = ap (option_map (λ (g : Frame). g.body)) (ap (λ z. slot_at (frames_view z.slots) v.at) instances ∙ ap (λ (z : ℕ). slot_at fs z) at ∙ f.1);
        missing = λ m inn.
            subst (λ (z : Code). (wanted_missed z (cells_view v.store.now.cells) (led_slot (frames_view v.instances.now.slots) v.at) (wanted_in z f.0.body m) ≡ []) ↔ IsNeedKnown (seen_of a) (path_of fs l.instance) m) (sym program)
            (subst (λ (z : ℕ). (wanted_missed C (cells_view v.store.now.cells) (led_slot (frames_view v.instances.now.slots) z) (wanted_in C f.0.body m) ≡ []) ↔ IsNeedKnown (seen_of a) (path_of fs l.instance) m) (sym at)
            (subst (λ z. (wanted_missed C (cells_view v.store.now.cells) (led_slot (frames_view z.slots) l.instance) (wanted_in C f.0.body m) ≡ []) ↔ IsNeedKnown (seen_of a) (path_of fs l.instance) m) (sym instances)
            (subst (λ z. (wanted_missed C (cells_view z.cells) (led_slot fs l.instance) (wanted_in C f.0.body m) ≡ []) ↔ IsNeedKnown (seen_of a) (path_of fs l.instance) m) (sym store)
            (needed n l.instance l.entry l.chunk f.0.body (res C s.whole es a.core s.stand n l.instance l.entry l.chunk (row_as l.instance l.entry l.chunk (status_view l.status)) there refl (live_status l.status live)) m inn))));
      }
