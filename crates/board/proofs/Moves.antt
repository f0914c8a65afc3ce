-- Which events a board's fields allow, and what they lead to.
use Rattle.std.proofs.Common.{◌≡◌, ℕ, zero, suc, List, [], ◌∷◌, ◌++◌, refl, sym, ap, ◌∙◌, subst, Option, None, Some, arith}
use Rattle.std.specs.Prelude.{ℤ}
use Rattle.dataflow.specs.System.{In}
use Rattle.dataflow.specs.Machine.{Back, Begin, End, Event, Run}
use Rattle.dataflow.specs.Promises.{HasSteps}
use Rattle.dataflow.specs.History.{log_of}
use Rattle.dataflow.proofs.Headline.{goes_on}
use Rattle.dataflow.proofs.Numbers.{run_numbered}
use Rattle.dataflow.proofs.Possible.{has_steps}
use Rattle.dataflow.proofs.Steps.{run_follows}
use Rattle.board_history.specs.CodeReplay.{and_then, next_state, replayed}
use Rattle.board_history.specs.Elements.{code_tests}
use Rattle.board_history.specs.Fields.{Does, Fields, Frame, Job, Layout, Status, Over, Ready, Row, Running, Script, Waiting, row_of, item_before, task_of}
use Rattle.board_history.specs.Stands.{Stands}
use Rattle.board_history.proofs.Elements.{code_told}
use Rattle.board_history.specs.Marking.{begun_fields, returned_fields}
use Rattle.board_history.specs.Ending.{job_kind, job_priority}
use Rattle.board_history.proofs.Begun.{begun_stands, returned_stands}
use Rattle.board_history.proofs.Marking.{IsItem, RowIs, first_of, item, row_found}
use Rattle.board_history.proofs.Replays.{replayed_then, run_next, run_replayed, run_some}
use Rattle.board_history.proofs.Rows.{no_row, row_item}
use Rattle.board_history.proofs.Tests.{none_some, some_same}
use Rattle.task_code.proofs.Kept.{code_laws}
use Rattle.task_code.specs.Code.{Code, Kind}
use Rattle.task_code.specs.Effects.{Main, Task}
use Rattle.task_code.specs.Machine.{CanBegin, CodeItem, CodeState, CodeStep, Enabled, RunsOn}
use Rattle.task_code.specs.System.{code_system, task_kind, task_priority}
use Rattle.task_code.specs.Whole.{IsCode}
use Rattle.board.specs.History.{or_start, state_of}
use Rattle.board.specs.Rows as Rows

-- the two marks of items that can begin or run
abbrev pub ready_item : IsItem Ready
ready_item = record { runs = None; is = λ n t is. refl }

abbrev pub running_item : (w : ℕ) → IsItem (Running w)
running_item w = record { runs = Some w; is = λ n t is. refl }

abbrev pub waiting_item : IsItem Waiting
waiting_item = record { runs = None; is = λ n t is. refl }

-- what a status says of its item
marked_runs : (m : Status) (y : IsItem m) (k : Status) (z : IsItem k) → m ≡ k → y.runs ≡ z.runs
marked_runs m y k z q = ap (λ (i : CodeItem). i.runs) (first_of (sym (y.is 0 Main []) ∙ ap (λ (a : Status). item_before 0 Main a []) q ∙ z.is 0 Main []))

pub runs_as : (F : Fields) (i : CodeItem) (f : RowIs F.frames F.rows 1 i) (k : Status) (z : IsItem k) → f.row.status ≡ k → i.runs ≡ z.runs
runs_as F i f k z q =
    let y : IsItem f.row.status = subst (λ (m : Status). IsItem m) (sym q) z in
    f.runs_is y ∙ marked_runs f.row.status y k z q

-- who runs a job, and its priority
pub kind_of_job : (C : Code) (fs : List (Option Frame)) (j : Job) → task_kind C (task_of fs j) ≡ job_kind C j
kind_of_job C fs Script = refl
kind_of_job C fs (Does k e c) = refl

pub priority_of_job : (C : Code) (fs : List (Option Frame)) (j : Job) → task_priority C (task_of fs j) ≡ job_priority C j
priority_of_job C fs Script = refl
priority_of_job C fs (Does k e c) = refl

-- a history leads to one state
pub state_is : (C : Code) (es : List Event) (s : CodeState) → replayed C es ≡ Some s → state_of C es ≡ s
unfolding state_of
state_is C es s h = ap (λ (r : Option CodeState). or_start C r) h

module _ (C : Code) (I : IsCode C) (L : Layout) (es : List Event) (F : Fields) (x : Stands C L es F) where
  run : Run (code_system C) es x.state
  run = (run_replayed (code_system C) code_tests (code_told C) (code_laws C I) es x.state x.reached).0

  pub steps : HasSteps (code_system C) x.state
  steps = has_steps (code_system C) (code_laws C I) x.state (goes_on (code_system C) (code_laws C I) x.state (log_of (code_system C) es x.state run) (run_follows (code_system C) (code_laws C I) es x.state run) (run_numbered (code_system C) es x.state run))

  -- a step leads to the state of the history with its event
  pub leads_on : (e : Event) (new : CodeState) → CodeStep C x.state e new → (t : CodeState) × (replayed C (es ++ e ∷ []) ≡ Some t)
  leads_on e new step =
      let p = run_some (code_system C) code_tests (code_told C) (code_laws C I) es x.state run e new step in
      (p.0, replayed_then (code_system C) code_tests es e ∙ ap (λ (r : Option CodeState). and_then C r e) x.reached ∙ p.1)

  -- and the state is a step's
  pub stepped : (e : Event) (t : CodeState) → replayed C (es ++ e ∷ []) ≡ Some t → CodeStep C (state_of C es) e (state_of C (es ++ e ∷ []))
  stepped e t reached =
      let next : next_state C x.state e ≡ Some t = ap (λ (r : Option CodeState). and_then C r e) (sym x.reached) ∙ sym (replayed_then (code_system C) code_tests es e) ∙ reached in
      subst (λ (s : CodeState). CodeStep C s e (state_of C (es ++ e ∷ []))) (sym (state_is C es x.state x.reached))
      (subst (λ (u : CodeState). CodeStep C x.state e u) (sym (state_is C (es ++ e ∷ []) t reached))
      (run_next (code_system C) code_tests (code_told C) (code_laws C I) es x.state run e t next).0)

  -- the item of a row
  pub item_there : (n : ℕ) (r : Row) → row_of F.rows n ≡ Some r → (y : IsItem r.status) → In (item n (task_of F.frames r.job) y.runs) x.state.items
  item_there zero r h y = no_row F.rows r h
  item_there (suc j) r h y = subst (λ (is : List CodeItem). In (item (suc j) (task_of F.frames r.job) y.runs) is) x.items.items (row_item F.frames 1 F.rows j (suc j) r h y (omega arith))

  -- the row of an item
  pub row_there : (i : CodeItem) → In i x.state.items → RowIs F.frames F.rows 1 i
  row_there i h = row_found F.frames 1 F.rows i (subst (λ (is : List CodeItem). In i is) (sym x.items.items) h)

  -- one whose row is ready can begin, and no other
  pub ready_begins : (n : ℕ) (j : Job) → Rows.IsReady F.rows n j → CanBegin C x.state n
  ready_begins n j h =
      record {
        item = item n (task_of F.frames j) None;
        there = item_there n (record { job = j; status = Ready }) h ready_item;
        number_is = refl;
        idle = refl;
        enabled = x.items.ready n (record { job = j; status = Ready }) h refl;
      }

  pub idle_ready : (i : CodeItem) → In i x.state.items → i.runs ≡ None → Enabled C x.state i.task → (f : RowIs F.frames F.rows 1 i) (m : Status) → f.row.status ≡ m → f.row.status ≡ Ready
  idle_ready i h idle enabled f Ready q = q
  idle_ready i h idle enabled f Over q = absurd (f.not_over q)
  idle_ready i h idle enabled f (Running w) q = none_some (sym idle ∙ runs_as F i f (Running w) (running_item w) q)
  idle_ready i h idle enabled f Waiting q = absurd (x.items.waiting (suc f.at) f.row f.there q (subst (λ (t : Task). Enabled C x.state t) f.task_is enabled))

  pub begins_ready : (n : ℕ) → CanBegin C x.state n → (j : Job) × Rows.IsReady F.rows n j
  begins_ready n c =
      let f = row_there c.item c.there in
      let e = f.number_is in
      let k = c.number_is in
      let place : suc f.at ≡ n = omega arith in
      (f.row.job, subst (λ (m : ℕ). row_of F.rows m ≡ Some (record { job = f.row.job; status = Ready })) place (f.there ∙ ap (λ (m : Status). Some (record { job = f.row.job; status = m })) (idle_ready c.item c.there c.idle c.enabled f f.row.status refl)))

  -- one whose row runs on a worker runs there, and no other
  pub row_runs : (w n : ℕ) (j : Job) → Rows.RunsOn F.rows w n j → RunsOn C x.state w n
  row_runs w n j h =
      record {
        item = item n (task_of F.frames j) (Some w);
        there = item_there n (record { job = j; status = Running w }) h (running_item w);
        number_is = refl;
        runs = refl;
      }

  pub runs_row : (w n : ℕ) → RunsOn C x.state w n → (j : Job) × Rows.RunsOn F.rows w n j
  runs_row w n c =
      let f = row_there c.item c.there in
      let e = f.number_is in
      let k = c.number_is in
      let place : suc f.at ≡ n = omega arith in
      (f.row.job, subst (λ (m : ℕ). row_of F.rows m ≡ Some (record { job = f.row.job; status = Running w })) place (f.there ∙ ap (λ (m : Status). Some (record { job = f.row.job; status = m })) (runs_running f f.row.status refl)))
    where
      runs_running : (f : RowIs F.frames F.rows 1 c.item) (m : Status) → f.row.status ≡ m → f.row.status ≡ Running w
      runs_running f Ready q = none_some (sym (runs_as F c.item f Ready ready_item q) ∙ c.runs)
      runs_running f Waiting q = none_some (sym (runs_as F c.item f Waiting waiting_item q) ∙ c.runs)
      runs_running f Over q = absurd (f.not_over q)
      runs_running f (Running v) q = q ∙ ap Running (some_same (sym (runs_as F c.item f (Running v) (running_item v) q) ∙ c.runs))

  module _ (free : F.fault ≡ None) where
    none : x.state.fault ≡ None
    none = sym x.fault ∙ free

    -- beginning a ready item
    pub begins : (w n : ℕ) (j : Job) → Rows.IsReady F.rows n j → (t : CodeState) × (replayed C (es ++ Begin w n ∷ []) ≡ Some t)
    begins w n j h = let p = steps.begin w n none (ready_begins n j h) in leads_on (Begin w n) p.0 p.1

    -- giving back one that runs
    pub backs : (w n : ℕ) (j : Job) → Rows.RunsOn F.rows w n j → (t : CodeState) × (replayed C (es ++ Back w n ∷ []) ≡ Some t)
    backs w n j h = let p = steps.back w n none (row_runs w n j h) in leads_on (Back w n) p.0 p.1

    -- its end
    pub ends : (w n : ℕ) (j : Job) → Rows.RunsOn F.rows w n j → (t : CodeState) × (replayed C (es ++ End w n ∷ []) ≡ Some t)
    ends w n j h = let p = steps.end w n none (row_runs w n j h) in leads_on (End w n) p.0 p.1

    -- the fields once it has begun, and once it was given back
    pub begun : (w n : ℕ) (j : Job) → Rows.IsReady F.rows n j → Stands C L (es ++ Begin w n ∷ []) (begun_fields F w n)
    begun w n j h = let p = begins w n j h in begun_stands C I L es F x w n p.0 p.1

    pub returned : (w n : ℕ) (j : Job) → Rows.RunsOn F.rows w n j → Stands C L (es ++ Back w n ∷ []) (returned_fields F n (job_kind C j) (job_priority C j))
    returned w n j h =
        let p = backs w n j h in
        by p.0 p.1 (returned_stands C I L es F x w n p.0 p.1)
      where
        by : (t : CodeState) → replayed C (es ++ Back w n ∷ []) ≡ Some t → ((i : CodeItem) × In i x.state.items × (i.number ≡ n) × Stands C L (es ++ Back w n ∷ []) (returned_fields F n (task_kind C i.task) (task_priority C i.task))) → Stands C L (es ++ Back w n ∷ []) (returned_fields F n (job_kind C j) (job_priority C j))
        by t reached r =
            let f = row_there r.0 r.1 in
            let e = f.number_is in
            let k = r.2 in
            let place : suc f.at ≡ n = omega arith in
            let same : f.row ≡ record { job = j; status = Running w } = some_same (sym f.there ∙ ap (λ (m : ℕ). row_of F.rows m) place ∙ h) in
            let task : r.0.task ≡ task_of F.frames j = f.task_is ∙ ap (λ (q : Row). task_of F.frames q.job) same in
            subst (λ (z : ℤ). Stands C L (es ++ Back w n ∷ []) (returned_fields F n (job_kind C j) z)) (priority_of_job C F.frames j)
            (subst (λ (k : Kind). Stands C L (es ++ Back w n ∷ []) (returned_fields F n k (task_priority C (task_of F.frames j)))) (kind_of_job C F.frames j)
            (subst (λ (t : Task). Stands C L (es ++ Back w n ∷ []) (returned_fields F n (task_kind C t) (task_priority C t))) task r.3))
