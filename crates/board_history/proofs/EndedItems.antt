-- The items of a board after an End without fault.
use Rattle.std.proofs.Common.{◌≡◌, ◌⊎◌, inl, inr, ℕ, zero, suc, ◌+◌, ◌<◌, ◌≤◌, true, false, List, [], ◌∷◌, ◌++◌, map, length, refl, sym, ap, ◌∙◌, subst, Option, None, Some, if◌then◌else◌, arith}
use Rattle.std.specs.Prelude.{◌-◌, nat_eq}
use Rattle.std.proofs.lemmas.Bool.{or_cases, or_left, or_right}
use Rattle.dataflow.specs.System.{Effect, Good, Bad, In, Outcome, System, tasks_of}
use Rattle.dataflow.specs.Laws.{Laws}
use Rattle.dataflow.specs.Log.{Logged, Waits}
use Rattle.dataflow.specs.Machine.{After, Enabled as EnabledIn, End, Event, Item as MachineItem, Run, State, Step, new_items}
use Rattle.dataflow.specs.Events.{NewlyAt}
use Rattle.dataflow.specs.History.{log_after, log_of, log_of_step}
use Rattle.dataflow.proofs.Follows.{Follows, enabled, sees_enabled}
use Rattle.dataflow.proofs.Known.{sees, sees_only}
use Rattle.dataflow.proofs.Lists.{in_map, in_split, seam_here, seam_in}
use Rattle.dataflow.proofs.Numbers.{Numbered, number_of_item, run_numbered, step_numbered}
use Rattle.dataflow.proofs.Runs.{comes_enabled, enabled_comes, run_settled}
use Rattle.dataflow.proofs.Settled.{settled_comes}
use Rattle.dataflow.proofs.Steps.{run_follows, step_follow}
use Rattle.board_history.specs.CodeReplay.{next_state, replayed, and_then}
use Rattle.board_history.specs.Elements.{code_tests}
use Rattle.board_history.specs.Ending.{OpensItems, TasksStay, ended_rows, is_one, status_after, new_row}
use Rattle.board_history.specs.Fields.{Fields, Frame, Job, Layout, Status, Over, Ready, Row, Running, Waiting, is_running, item_before, items_from, row_of, running_in, task_of}
use Rattle.board_history.specs.Stands.{ItemsStand, Stands}
use Rattle.board_history.proofs.Elements.{code_told}
use Rattle.board_history.proofs.Faulted.{runs_on}
use Rattle.board_history.proofs.Marking.{IsItem, RowIs, item, item_not_over, status_is as status_split, row_found}
use Rattle.board_history.proofs.Next.{nat_same, nat_sound}
use Rattle.board_history.proofs.Replays.{replayed_then, run_next, run_replayed}
use Rattle.board_history.proofs.Rows.{AllFine, ended_items, ended_running, is_idle, no_row, opened_items, row_by, row_item, row_split, rows_length}
use Rattle.board_history.proofs.Tests.{choose, none_some, yes_no, some_same}
use Rattle.task_code.proofs.Kept.{code_laws}
use Rattle.task_code.specs.Code.{Code}
use Rattle.task_code.specs.Effects.{Main, Task}
use Rattle.task_code.specs.Machine.{CodeItem, CodeState, CodeStep, Enabled}
use Rattle.task_code.specs.System.{code_system}
use Rattle.task_code.specs.Whole.{IsCode}
use Rattle.board_history.proofs.Standing.{one_number}

some_none : {A B : Type 0} {x : A} → ◌≡◌ {A = Option A} (Some x) None → B
some_none h = absurd (cc)

head_is : {X : Type 0} {a b : X} {xs ys : List X} → ◌≡◌ {A = List X} (a ∷ xs) (b ∷ ys) → a ≡ b
head_is h = cc

ready_waits : {B : Type 0} → Waiting ≡ Ready → B
ready_waits h = absurd (cc)

over_ready : {B : Type 0} → Over ≡ Ready → B
over_ready h = absurd (cc)

over_waits : {B : Type 0} → Over ≡ Waiting → B
over_waits h = absurd (cc)

map_length : {X Y : Type 0} (f : X → Y) (xs : List X) → length (map f xs) ≡ length xs
map_length f [] = refl
map_length f (x ∷ xs) = let h = map_length f xs in omega arith

pub one_in : (n : ℕ) (ms : List ℕ) → is_one n ms ≡ true → In n ms
one_in n [] h = yes_no h refl
one_in n (m ∷ ms) h = elim (or_cases (nat_eq n m) (is_one n ms) h) [ inl p ↦ inl (nat_sound n m p) | inr g ↦ inr (one_in n ms g) ]

pub in_one : (n : ℕ) (ms : List ℕ) → In n ms → is_one n ms ≡ true
in_one n [] h = absurd h
in_one n (m ∷ ms) h =
    elim h [
      | inl p ↦ or_left (nat_eq n m) (is_one n ms) (subst (λ (k : ℕ). nat_eq n k ≡ true) p (nat_same n))
      | inr g ↦ or_right (nat_eq n m) (is_one n ms) (in_one n ms g)
    ]

-- an item that does not run, told by its row's status
pub idle_row : (m : Status) (y : IsItem m) → y.runs ≡ None → is_idle m ≡ true
idle_row Waiting y h = refl
idle_row Ready y h = refl
idle_row (Running w) y h = none_some (sym h ∙ ap (λ (i : CodeItem). i.runs) (head_is (sym (y.is 0 Main []))))
idle_row Over y h = absurd (item_not_over Over y refl)

row_idle : (m : Status) (y : IsItem m) → is_idle m ≡ true → y.runs ≡ None
row_idle Waiting y h = sym (ap (λ (i : CodeItem). i.runs) (head_is (y.is 0 Main [])))
row_idle Ready y h = sym (ap (λ (i : CodeItem). i.runs) (head_is (y.is 0 Main [])))
row_idle (Running w) y h = yes_no h refl
row_idle Over y h = yes_no h refl

pub row_below : (rows : List Row) (j : ℕ) (r : Row) → row_of rows (suc j) ≡ Some r → j < length rows
row_below [] j r h = none_some h
row_below (q ∷ rows) zero r h = omega arith
row_below (q ∷ rows) (suc j) r h = let b = row_below rows j r h in omega arith

pub new_above : {T : Type 0} (k : ℕ) (ts : List T) (i : MachineItem T) → In i (new_items k ts) → k ≤ i.number
new_above k [] i h = absurd h
new_above k (t ∷ ts) i h =
    elim h [
      | inl p ↦ (let e = ap (λ (j : MachineItem _). j.number) p in omega arith)
      | inr g ↦ (let b = new_above (suc k) ts i g in omega arith)
    ]

-- marks afterwards
after_ready : (n : ℕ) (newly : List ℕ) (k : ℕ) (m : Status) → status_after n newly k m ≡ Ready → (is_one k newly ≡ true) ⊎ ((k ≡ n → ⊥) × (m ≡ Ready))
after_ready n newly k m =
    choose (λ (z : Status). z ≡ Ready → (is_one k newly ≡ true) ⊎ ((k ≡ n → ⊥) × (m ≡ Ready))) (nat_eq k n) Over (if is_one k newly then Ready else m)
    (λ t h. over_ready h)
    (λ t. choose (λ (z : Status). z ≡ Ready → (is_one k newly ≡ true) ⊎ ((k ≡ n → ⊥) × (m ≡ Ready))) (is_one k newly) Ready m
    (λ u h. inl u)
    (λ u h. inr ((λ e. yes_no (subst (λ (l : ℕ). nat_eq k l ≡ true) e (nat_same k)) t), h)))

after_waiting : (n : ℕ) (newly : List ℕ) (k : ℕ) (m : Status) → status_after n newly k m ≡ Waiting → (is_one k newly ≡ false) × (m ≡ Waiting)
after_waiting n newly k m =
    choose (λ (z : Status). z ≡ Waiting → (is_one k newly ≡ false) × (m ≡ Waiting)) (nat_eq k n) Over (if is_one k newly then Ready else m)
    (λ t h. over_waits h)
    (λ t. choose (λ (z : Status). z ≡ Waiting → (is_one k newly ≡ false) × (m ≡ Waiting)) (is_one k newly) Ready m
    (λ u h. ready_waits (sym h))
    (λ u h. (u, h)))

module _ {T D K V E : Type 0} (S : System T D K V E) where
  pub opens_items : (s t : State T D K V E) (w n : ℕ) → Step S s (End w n) t → t.fault ≡ None → OpensItems S s w n t
  opens_items s t w n x none = by (S.effect x.1.item.task x.1.answers) refl x.1.result
    where
      by : (r : Outcome T D K V E) → S.effect x.1.item.task x.1.answers ≡ r → After S s x.1.item.task (x.1.before ++ x.1.after) r t → OpensItems S s w n t
      by (Bad f) q l = some_none (sym l.fault ∙ none)
      by (Good e) q (inl l) = some_none (sym l.1.fault ∙ none)
      by (Good e) q (inr l) = record {
        before = x.1.before;
        item = x.1.item;
        after = x.1.after;
        number_is = x.1.at.number_is;
        there = x.1.at.items;
        runs = x.1.runs;
        answers = x.1.answers;
        known = x.1.known;
        effect = e;
        is = q;
        items = l.1.items;
        next = l.1.next;
        lines = l.1.lines;
        left = l.1;
      }

  older : (s t : State T D K V E) (log : List (T × Effect T D K V)) (u : T) (os : List (MachineItem T)) (r : Outcome T D K V E) (y : After S s u os r t) (v : T) (e : Effect T D K V) → In (v, e) log → In (v, e) (log_after S s u os r t y log)
  older s t log u os (Bad f) y v e h = h
  older s t log u os (Good g) (inl y) v e h = h
  older s t log u os (Good g) (inr y) v e h = inr h

  -- what is enabled before an End is enabled after it
  pub enabled_later : (L : Laws S) (s t : State T D K V E) (log : List (T × Effect T D K V)) → Follows S s log → (w n : ℕ) → Step S s (End w n) t → (i j : MachineItem T) → In i s.items → In j t.items → j.task ≡ i.task → EnabledIn S s i.task → EnabledIn S t i.task
  enabled_later L s t log f w n x i j h g same en =
      let more = log_of_step S s (End w n) t x log in
      let ft = step_follow S L s t log f (End w n) x in
      let seen = sees S L s log f i.task en in
      let sh = run_settled S L f.run in
      let st = (run_settled S L ft.run).0 in
      let c = settled_comes S L (Logged S log) (Logged S more) (λ v e k. older s t log x.1.item.task (x.1.before ++ x.1.after) (S.effect x.1.item.task x.1.answers) x.1.result v e k) st (enabled_comes S L log sh.0 sh.1 (enabled S L s log f i.task (f.items.waits i h) seen.0 seen.1)) in
      let wt : Waits S more i.task = subst (λ (u : T). Waits S more u) same (ft.items.waits j g) in
      let r = comes_enabled S L more st c wt.open_yet in
      sees_only S L t more ft i.task r.answers (sees_enabled S L t more ft i.task wt r.answers r.known)

module _ (C : Code) (I : IsCode C) (L : Layout) (es : List Event) (F : Fields) (x : Stands C L es F) (w n : ℕ) (t : CodeState) (reached : replayed C (es ++ End w n ∷ []) ≡ Some t) (good : t.fault ≡ None) where
  abbrev s : CodeState
  s = x.state

  run : Run (code_system C) es s
  run = (run_replayed (code_system C) code_tests (code_told C) (code_laws C I) es s x.reached).0

  next : next_state C s (End w n) ≡ Some t
  next = ap (λ (r : Option CodeState). and_then C r (End w n)) (sym x.reached) ∙ sym (replayed_then (code_system C) code_tests es (End w n)) ∙ reached

  pub step : CodeStep C s (End w n) t
  step = (run_next (code_system C) code_tests (code_told C) (code_laws C I) es s run (End w n) t next).0

  abbrev o : OpensItems (code_system C) s w n t
  o = opens_items (code_system C) s t w n step good

  numbers : Numbered (code_system C) s
  numbers = run_numbered (code_system C) es s run

  numbers_after : Numbered (code_system C) t
  numbers_after = step_numbered (code_system C) s (End w n) t numbers step

  row_there : (i : CodeItem) → In i s.items → RowIs F.frames F.rows 1 i
  row_there i h = row_found F.frames 1 F.rows i (subst (λ (is : List CodeItem). In i is) (sym x.items.items) h)

  here : In o.item s.items
  here = subst (λ (is : List CodeItem). In o.item is) (sym o.there) (seam_here o.item o.before o.after)

  below : (i : CodeItem) → In i s.items → i.number < suc (length F.rows)
  below i h = subst (λ (m : ℕ). i.number < m) x.items.next (numbers.below i.number (in_map number_of_item i s.items h))

  module _ (gs : List (Option Frame)) (jobs : List Job) (newly : List ℕ) (new : NewlyAt (code_system C) s t newly) (stay : TasksStay F.frames gs F.rows n jobs (tasks_of o.effect.opens)) where
    abbrev rows : List Row
    rows = ended_rows F.rows n newly jobs

    idle : (j m : ℕ) (r : Row) → row_of F.rows (suc j) ≡ Some r → m ≡ 1 + j → is_one m newly ≡ true → is_idle r.status ≡ true
    idle j m r h e u =
        let b = new.can m (one_in m newly u) in
        elim (in_split b.item (o.before ++ o.after) (new_items s.next (tasks_of o.effect.opens)) (subst (λ (is : List CodeItem). In b.item is) o.items b.there)) [
          | inl g ↦ by b.item (subst (λ (is : List CodeItem). In b.item is) (sym o.there) (seam_in b.item o.item o.before o.after g)) b.number_is b.idle
          | inr g ↦ (let a = new_above s.next (tasks_of o.effect.opens) b.item g in
              let k = b.number_is in
              let l = row_below F.rows j r h in
              let z = x.items.next in
              absurd (omega arith))
        ]
      where
        by : (i : CodeItem) → In i s.items → i.number ≡ m → i.runs ≡ None → is_idle r.status ≡ true
        by i g k d =
            let f = row_there i g in
            let a = f.number_is in
            let at : f.at ≡ j = omega arith in
            let same : f.row ≡ r = some_same (sym f.there ∙ subst (λ (l : ℕ). row_of F.rows (suc l) ≡ Some r) (sym at) h) in
            subst (λ (q : Row). is_idle q.status ≡ true) same
            (elim (status_split f.row.status) [ inl p ↦ absurd (f.not_over p) | inr y ↦ idle_row f.row.status y (sym (f.runs_is y) ∙ d) ])

    fine : AllFine F.frames gs n newly 1 F.rows
    fine j m r h e =
        let k : suc j ≡ m = omega arith in
        record {
          idle = idle j m r h e;
          task = λ live ne. stay.others m r (subst (λ (l : ℕ). row_of F.rows l ≡ Some r) k h) live ne;
        }

    items : items_from gs 1 rows ≡ t.items
    items =
        let z = x.items.next in
        ended_items F.frames gs n newly 1 F.rows (map new_row jobs) s.next (omega arith) fine o.before o.after o.item (x.items.items ∙ o.there) o.number_is
        ∙ ap (λ (l : List CodeItem). (o.before ++ o.after) ++ l) (opened_items F.frames gs n newly s.next jobs (subst (λ (m : ℕ). m < s.next) o.number_is (numbers.below o.item.number (in_map number_of_item o.item s.items here))) ∙ ap (new_items s.next) stay.opened)
        ∙ sym o.items

    spot : (j : ℕ) (r : Row) → row_of rows (suc j) ≡ Some r → (y : IsItem r.status) → In (item (suc j) (task_of gs r.job) y.runs) t.items
    spot j r h y = subst (λ (is : List CodeItem). In (item (suc j) (task_of gs r.job) y.runs) is) items (row_item gs 1 rows j (suc j) r h y (omega arith))

    old_spot : (j : ℕ) (r : Row) → row_of F.rows (suc j) ≡ Some r → (y : IsItem r.status) → In (item (suc j) (task_of F.frames r.job) y.runs) s.items
    old_spot j r h y = subst (λ (is : List CodeItem). In (item (suc j) (task_of F.frames r.job) y.runs) is) x.items.items (row_item F.frames 1 F.rows j (suc j) r h y (omega arith))

    abbrev ready_item : (r : Row) → r.status ≡ Ready → IsItem r.status
    ready_item r b = record { runs = None; is = λ k u is. ap (λ (m : Status). item_before k u m is) b }

    abbrev waiting_item : (r : Row) → r.status ≡ Waiting → IsItem r.status
    waiting_item r b = record { runs = None; is = λ k u is. ap (λ (m : Status). item_before k u m is) b }

    ready : (m : ℕ) (r : Row) → row_of rows m ≡ Some r → r.status ≡ Ready → Enabled C t (task_of gs r.job)
    ready zero r h b = no_row rows r h
    ready (suc j) r h b =
        let q = row_by (status_after n newly) 1 (F.rows ++ map new_row jobs) j (suc j) r h (omega arith) in
        let mine = spot j r h (ready_item r b) in
        elim (after_ready n newly (suc j) q.0.status (sym q.3 ∙ b)) [
          | inl u ↦ (let c = new.can (suc j) (one_in (suc j) newly u) in
              let e = one_number t.items c.item (item (suc j) (task_of gs r.job) None) numbers_after.once c.there mine c.number_is in
              subst (λ (i : CodeItem). Enabled C t i.task) e c.enabled)
          | inr u ↦ elim (row_split F.rows jobs j q.0 q.1) [
            | inl old ↦ (let y = ready_item q.0 u.1 in
                let e : task_of gs r.job ≡ task_of F.frames q.0.job = ap (task_of gs) q.2 ∙ stay.others (suc j) q.0 old (λ p. over_ready (sym p ∙ u.1)) u.0 in
                subst (λ (v : Task). Enabled C t v) (sym e)
                (enabled_later (code_system C) (code_laws C I) s t (log_of (code_system C) es s run) (run_follows (code_system C) (code_laws C I) es s run) w n step (item (suc j) (task_of F.frames q.0.job) None) (item (suc j) (task_of gs r.job) None) (old_spot j q.0 old y) mine e (x.items.ready (suc j) q.0 old u.1)))
            | inr p ↦ ready_waits (sym p.0 ∙ u.1)
          ]
        ]

    waiting : (m : ℕ) (r : Row) → row_of rows m ≡ Some r → r.status ≡ Waiting → Enabled C t (task_of gs r.job) → ⊥
    waiting zero r h b en = no_row rows r h
    waiting (suc j) r h b en =
        let q = row_by (status_after n newly) 1 (F.rows ++ map new_row jobs) j (suc j) r h (omega arith) in
        let u = after_waiting n newly (suc j) q.0.status (sym q.3 ∙ b) in
        yes_no (in_one (suc j) newly (new.all (suc j) (record { item = item (suc j) (task_of gs r.job) None; there = spot j r h (waiting_item r b); number_is = refl; idle = refl; enabled = en })
        (λ c. elim (row_split F.rows jobs j q.0 q.1) [
          | inl old ↦ (let e = one_number s.items c.item (item (suc j) (task_of F.frames q.0.job) None) numbers.once c.there (old_spot j q.0 old (waiting_item q.0 u.1)) c.number_is in
              x.items.waiting (suc j) q.0 old u.1 (subst (λ (i : CodeItem). Enabled C s i.task) e c.enabled))
          | inr p ↦ (let a = below c.item c.there in
              let k = c.number_is in
              let l = p.1 in
              omega arith)
        ]))) u.0

    running : F.running - 1 ≡ running_in rows
    running =
        let f = row_there o.item here in
        let a = f.number_is in
        let k = o.number_is in
        let runs : is_running f.row.status ≡ true = elim (status_split f.row.status) [ inl p ↦ absurd (f.not_over p) | inr y ↦ ap is_running (runs_on w f.row.status y (sym (f.runs_is y) ∙ o.runs)) ] in
        fewer F.running (running_in F.rows) (running_in rows) x.items.running (ended_running F.frames gs n newly 1 F.rows jobs fine f.at f.row f.there (omega arith) runs)
      where
        fewer : (a b c : ℕ) → a ≡ b → suc c ≡ b → a - 1 ≡ c
        fewer a b c h g = omega arith

    pub items_after : ItemsStand C (record F { frames = gs; rows = ended_rows F.rows n newly jobs; running = F.running - 1 }) t
    items_after = record {
      items = items;
      next = (let z = x.items.next in
          let y = o.next in
          let l = rows_length (status_after n newly) 1 F.rows jobs in
          let k = ap length (sym stay.opened) ∙ map_length (task_of gs) jobs in
          omega arith);
      ready = ready;
      waiting = waiting;
      running = running;
    }

  pub end_items : (p : OpensItems (code_system C) s w n t) × ((gs : List (Option Frame)) (jobs : List Job) (newly : List ℕ) → NewlyAt (code_system C) s t newly → TasksStay F.frames gs F.rows n jobs (tasks_of p.effect.opens) → ItemsStand C (record F { frames = gs; rows = ended_rows F.rows n newly jobs; running = F.running - 1 }) t)
  end_items = (o, λ gs jobs newly new stay. items_after gs jobs newly new stay)
