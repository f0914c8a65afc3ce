-- An End with a fault keeps the fields standing for the state.
use Rattle.std.proofs.Common.{◌≡◌, inl, inr, ℕ, zero, suc, List, [], ◌∷◌, ◌++◌, refl, sym, ap, ◌∙◌, subst, Option, None, Some}
use Rattle.dataflow.specs.System.{In}
use Rattle.dataflow.specs.Machine.{End, Event, Fault, Run}
use Rattle.dataflow.proofs.Lists.{seam_here}
use Rattle.board_history.specs.CodeReplay.{next_state, replayed, and_then}
use Rattle.board_history.specs.Elements.{code_tests}
use Rattle.board_history.specs.Fields.{Fields, Layout, Status, Over, Ready, Row, Running, Waiting, row_of, running_in}
use Rattle.board_history.specs.Stands.{Queued, Stands}
use Rattle.board_history.specs.Marking.{faulted_fields, with_status}
use Rattle.board_history.specs.Tidy.{FaultOnly}
use Rattle.board_history.proofs.Tests.{none_some, some_same}
use Rattle.board_history.proofs.Counts.{fault_counts}
use Rattle.board_history.proofs.Elements.{code_told}
use Rattle.board_history.proofs.Marking.{IsItem, item, item_not_over, status_is as status_split}
use Rattle.board_history.proofs.Remarked.{Remark, enabled_back, enabled_on, found, new_item, old_item, place, row_there, running_not_ready, running_not_waiting, runs_of, stands_on}
use Rattle.board_history.proofs.Quiet.{end_fault, replayed_bare}
use Rattle.board_history.proofs.Replays.{replayed_then, run_next, run_replayed}
use Rattle.task_code.proofs.Kept.{code_laws}
use Rattle.task_code.specs.Code.{Code, Kind}
use Rattle.task_code.specs.Compute.{EntryFault}
use Rattle.task_code.specs.Effects.{Main}
use Rattle.task_code.specs.Machine.{CodeItem, CodeState, CodeStep}
use Rattle.task_code.specs.System.{code_system}
use Rattle.task_code.specs.Whole.{IsCode}
use Rattle.std.specs.Prelude.{ℤ}

some_none : {A B : Type 0} {x : A} → ◌≡◌ {A = Option A} (Some x) None → B
some_none h = absurd (cc)

head_is : {X : Type 0} {a b : X} {xs ys : List X} → ◌≡◌ {A = List X} (a ∷ xs) (b ∷ ys) → a ≡ b
head_is h = cc

-- a row that runs on a worker, told by its item
pub runs_on : (w : ℕ) (m : Status) (y : IsItem m) → y.runs ≡ Some w → m ≡ Running w
runs_on w Waiting y h = some_none (sym h ∙ ap (λ (i : CodeItem). i.runs) (head_is (sym (y.is 0 Main []))))
runs_on w Ready y h = some_none (sym h ∙ ap (λ (i : CodeItem). i.runs) (head_is (sym (y.is 0 Main []))))
runs_on w (Running v) y h = ap Running (some_same (sym (runs_of (Running v) v y refl) ∙ h))
runs_on w Over y h = absurd (item_not_over Over y refl)

-- a status that a row has already changes nothing
marked_same : (rows : List Row) (n : ℕ) (m : Status) (r : Row) → row_of rows n ≡ Some r → r.status ≡ m → with_status rows n m ≡ rows
marked_same [] n m r h k = refl
marked_same (q ∷ rows) zero m r h k = refl
marked_same (q ∷ rows) (suc zero) m r h k =
    let e : m ≡ q.status = sym k ∙ ap (λ (y : Row). y.status) (sym (some_same h)) in
    λ i. record { job = q.job; status = e i } ∷ rows
marked_same (q ∷ rows) (suc (suc n)) m r h k = ap (λ (l : List Row). q ∷ l) (marked_same rows (suc n) m r h k)

module _ (C : Code) (I : IsCode C) (L : Layout) (es : List Event) (F : Fields) (x : Stands C L es F) (w n : ℕ) (t : CodeState) (reached : replayed C (es ++ End w n ∷ []) ≡ Some t) (bad : t.fault ≡ None → ⊥) where
  abbrev s : CodeState
  s = x.state

  run : Run (code_system C) es s
  run = (run_replayed (code_system C) code_tests (code_told C) (code_laws C I) es s x.reached).0

  next : next_state C s (End w n) ≡ Some t
  next = ap (λ (r : Option CodeState). and_then C r (End w n)) (sym x.reached) ∙ sym (replayed_then (code_system C) code_tests es (End w n)) ∙ reached

  step : CodeStep C s (End w n) t
  step = (run_next (code_system C) code_tests (code_told C) (code_laws C I) es s run (End w n) t next).0

  only : FaultOnly (code_system C) s w n t
  only = end_fault (code_system C) code_tests (code_told C) s t w n (replayed_bare (code_system C) code_tests (code_told C) es s x.reached) next bad

  abbrev c : Remark C L es F x (End w n) n (Running w) t
  c = record {
    y = record { runs = Some w; is = λ n t is. refl };
    reached = reached;
    counts = fault_counts (code_system C) code_tests s t w n step bad;
    i = only.item;
    before = only.before;
    after = only.after;
    at = only.there;
    num = only.number_is;
    now = ap (λ (y : CodeState). y.items) only.is ∙ only.there ∙ (λ k. only.before ++ item only.item.number only.item.task (only.runs k) ∷ only.after);
    places = ap (λ (y : CodeState). y.places) only.is;
    stored = ap (λ (y : CodeState). y.stored) only.is;
    next = ap (λ (y : CodeState). y.next) only.is;
    lines = ap (λ (y : CodeState). y.lines) only.is;
  }

  to : (k : Kind) (z : ℤ) (m : ℕ) → Queued C s k z m → Queued C t k z m
  to k z m q =
      elim (new_item C I L es F x (End w n) n (Running w) t c q.item q.there) [
        | inl g ↦ record { item = q.item; there = g; number_is = q.number_is; idle = q.idle; enabled = enabled_on C I L es F x (End w n) n (Running w) t c q.item.task q.enabled; kind_is = q.kind_is; priority_is = q.priority_is }
        | inr p ↦ none_some (sym q.idle ∙ ap (λ (y : CodeItem). y.runs) p ∙ only.runs)
      ]

  back : (k : Kind) (z : ℤ) (m : ℕ) → Queued C t k z m → Queued C s k z m
  back k z m q =
      elim (old_item C I L es F x (End w n) n (Running w) t c q.item q.there) [
        | inl g ↦ record { item = q.item; there = g.0; number_is = q.number_is; idle = q.idle; enabled = enabled_back C I L es F x (End w n) n (Running w) t c q.item.task q.enabled; kind_is = q.kind_is; priority_is = q.priority_is }
        | inr p ↦ none_some (sym q.idle ∙ ap (λ (y : CodeItem). y.runs) p)
      ]

  -- the item's row runs already
  row_runs : (found C I L es F x (End w n) n (Running w) t c).row.status ≡ Running w
  row_runs =
      let f = found C I L es F x (End w n) n (Running w) t c in
      elim (status_split f.row.status) [ inl o ↦ absurd (f.not_over o) | inr y ↦ runs_on w f.row.status y (sym (f.runs_is y) ∙ only.runs) ]

  rows_same : with_status F.rows n (Running w) ≡ F.rows
  rows_same =
      marked_same F.rows n (Running w) (found C I L es F x (End w n) n (Running w) t c).row (row_there C I L es F x (End w n) n (Running w) t c) row_runs

  pub fault_stands : (i : CodeItem) × (f : Fault EntryFault) × In i s.items × (i.number ≡ n) × (t.fault ≡ Some (i.task, f)) × Stands C L (es ++ End w n ∷ []) (faulted_fields F i.task f)
  fault_stands =
      let f = found C I L es F x (End w n) n (Running w) t c in
      let told = ap (λ (y : CodeState). y.fault) only.is in
      let r = stands_on C I L es F x (End w n) n (Running w) t c F.queue F.running [] (Some (only.item.task, only.fault))
      (λ h. running_not_ready h) (λ h. running_not_waiting h)
      (x.items.running ∙ ap running_in (sym (ap (λ (l : ℕ). with_status F.rows l (Running w)) (place C I L es F x (End w n) n (Running w) t c) ∙ rows_same)))
      (record { all = λ k z m q. x.queue.all k z m (back k z m q); only = λ k z m h. to k z m (x.queue.only k z m h); once = x.queue.once })
      (record {
        once = tt;
        all = λ m b g. g (elim (old_item C I L es F x (End w n) n (Running w) t c b.item b.there) [
          | inl h ↦ record { item = b.item; there = h.0; number_is = b.number_is; idle = b.idle; enabled = enabled_back C I L es F x (End w n) n (Running w) t c b.item.task b.enabled }
          | inr p ↦ none_some (sym b.idle ∙ ap (λ (y : CodeItem). y.runs) p)
        ]);
        can = λ m h. absurd h;
        could_not = λ m h. absurd h;
      })
      (sym told) in (
        only.item,
        only.fault,
        subst (λ (is : List CodeItem). In only.item is) (sym only.there) (seam_here only.item only.before only.after),
        only.number_is,
        told,
        subst (λ (rows : List Row). Stands C L (es ++ End w n ∷ []) (record { frames = F.frames; rows = rows; cells = F.cells; waiting = F.waiting; turns = F.turns; queue = F.queue; lines = F.lines; fault = Some (only.item.task, only.fault); running = F.running; newly = [] })) rows_same r,
      )
