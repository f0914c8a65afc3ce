-- The trace of a report, run again.
use Rattle.std.proofs.Common.{◌≡◌, ◌∙◌, sym, ap, subst, refl, inl, inr, Option, Some, ℕ, zero, suc, ◌^◌, ◌<◌, ◌≤◌, List, [], ◌∷◌, length, map, take, get_or, All, arith}
use Rattle.std.proofs.lemmas.List.{length-map}
use Rattle.dataflow.specs.Events.{worker_of as worker_in}
use Rattle.dataflow.specs.Machine as Machine
use Rattle.dataflow.specs.Machine.{Steps, start}
use Rattle.dataflow.specs.System.{In}
use Rattle.task_code.specs.declared.event.Event.{Event}
use Rattle.task_code.specs.declared.event.Event.TheVariants.{Back, Begin, End}
use Rattle.task_code.specs.Code.{Code}
use Rattle.task_code.specs.Machine.{CodeState, CodeStep, Run}
use Rattle.task_code.specs.System.{code_system}
use Rattle.task_code.specs.View.{event_view}
use Rattle.task_code.specs.Whole.{IsCode}
use Rattle.board.specs.Numbers.{number_in}
use Rattle.board_runs.specs.declared.report.End.{End as Ended}
use Rattle.board_runs.specs.declared.report.End.TheVariants as Ends
use Rattle.board_runs.specs.declared.report.Report.{Report}
use Rattle.board_runs.specs.Report.{Reports}
use Rattle.board_runs.specs.Same.{SameEnd, SameReport}
use Rattle.board_runs.proofs.Alike.{step_too}
use Rattle.board_runs.proofs.Told.{told}
use Rattle.swt_trace.specs.declared.fault.TraceError.{TraceError}
use Rattle.swt_trace.specs.declared.fault.TraceError.TheVariants as Read
use Rattle.swt_trace.specs.declared.fault.ReplayFault.TheVariants as Replay
use Rattle.swt_trace.specs.Faults.{replay_fault}
use Rattle.swt_trace.specs.declared.ending.Ending.{Ending}
use Rattle.swt_trace.specs.Replay.{IsFirstNoStep, IsNamed, IsTraceOf, IsWrongEnd, ReplaysTo}
use Rattle.swt_trace.specs.Report.{ending_of}
use Rattle.swt_trace.specs.Trace.{IsFirstBad, IsInRange, IsTrace, max_events}
use Rattle.swt_trace.proofs.Lines.{bad, one_meaning, written}

-- an event of a list, as the machine's
at_in : (es : List Event) (k : ℕ) (d : Event) → k < length es → In (event_view (get_or es k d)) (map event_view es)
at_in [] k d l = absurd (omega (arith, l))
at_in (e ∷ es) zero d l = inl refl
at_in (e ∷ es) (suc k) d l = inr (at_in es k d (omega (arith, l)))

event_in_range : (e : Event) → worker_in (event_view e) < 64 → (0 < number_in (event_view e)) × (number_in (event_view e) < 2 ^ 64) → IsInRange e
event_in_range (Begin w i) p q = record { worker = p; item = q.0; fits = q.1 }
event_in_range (End w i) p q = record { worker = p; item = q.0; fits = q.1 }
event_in_range (Back w i) p q = record { worker = p; item = q.0; fits = q.1 }

-- the events of a report are in range
in_range : (C : Code) (limit : ℕ) (r : Report) → Reports C limit r → All IsInRange r.history.items
in_range C limit r p k d l =
    let e = get_or r.history.items k d in
    let there : In (event_view e) p.board.history = subst (λ (es : List Machine.Event). In (event_view e) es) p.tells.history (at_in r.history.items k d l) in
    event_in_range e (p.tells.workers (event_view e) there) (p.tells.numbers (event_view e) there)

module _ (C : Code) (bytes : List ℕ) (r : Report) (t : IsTraceOf C bytes r) where
  -- the bytes are a trace of its events, and name its end
  pub its_trace : IsTrace bytes r.history.items (Some (ending_of r.end))
  its_trace =
      let few : length r.history.items ≤ max_events = omega (arith, length-map r.history.items event_view, ap (λ (es : List Machine.Event). length es) t.reports.tells.history, t.reports.within, t.few) in
      subst (λ (bs : List ℕ). IsTrace bs r.history.items (Some (ending_of r.end))) (sym t.text) (written r.history.items (Some (ending_of r.end)) (in_range C t.limit r t.reports) few)

  pub not_bad : (n : ℕ) → IsFirstBad bytes n → ⊥
  not_bad n b = bad bytes n r.history.items (Some (ending_of r.end)) b its_trace

  -- so reading them is refused for memory alone
  pub read_refused : (fault : TraceError) → ((n : ℕ) → fault ≡ Read.BadLine n → IsFirstBad bytes n) → replay_fault fault ≡ Replay.Memory
  read_refused (Read.BadLine n) b = absurd (not_bad n (b n refl))
  read_refused Read.Memory b = refl

  pub same_again : IsCode C → (s : Report) → ReplaysTo C bytes s → SameReport r s
  same_again whole s x =
      told C whole t.limit (length x.events) r s t.reports x.reports
      ((one_meaning bytes r.history.items x.events (Some (ending_of r.end)) x.ending its_trace x.trace).0 ∙ sym x.history)

-- the step at a place of a run
step_at : (C : Code) (es : List Event) (place : ℕ) (d : Event) (old new : CodeState) → Steps (code_system C) old (map event_view es) new → place < length es
    → (mid next : CodeState) × Steps (code_system C) old (map event_view (take place es)) mid × CodeStep C mid (event_view (get_or es place d)) next
step_at C [] place d old new x l = absurd (omega (arith, l))
step_at C (e ∷ es) zero d old new x l = (old, x.0, refl, x.1)
step_at C (e ∷ es) (suc place) d old new x l =
    let more = step_at C es place d x.0 new x.2 (omega (arith, l)) in
    (more.0, more.1, (x.0, x.1, more.2), more.3)

-- ends that are the same are named so
same_ending : (d e : Ended) → SameEnd d e → ending_of d ≡ ending_of e
same_ending (Ends.Fault f) (Ends.Fault g) s = refl
same_ending (Ends.Fault f) Ends.Quiet s = absurd s
same_ending (Ends.Fault f) Ends.Limit s = absurd s
same_ending Ends.Quiet (Ends.Fault g) s = absurd s
same_ending Ends.Quiet Ends.Quiet s = refl
same_ending Ends.Quiet Ends.Limit s = absurd s
same_ending Ends.Limit (Ends.Fault g) s = absurd s
same_ending Ends.Limit Ends.Quiet s = absurd s
same_ending Ends.Limit Ends.Limit s = refl

-- a trace of a report's events
module _ (C : Code) (whole : IsCode C) (bytes : List ℕ) (limit : ℕ) (r : Report) (e : Option Ending) (trace : IsTrace bytes r.history.items e) (reports : Reports C limit r) where
  -- none of its events is refused
  pub not_refused : (n : ℕ) → IsFirstNoStep C bytes n → ⊥
  not_refused n x =
      let same : r.history.items ≡ x.events = (one_meaning bytes r.history.items x.events e x.ending trace x.trace).0 in
      let b = reports.board in
      let run : Run C (map event_view x.events) b.state =
      subst (λ (es : List Event). Run C (map event_view es) b.state) same (subst (λ (es : List Machine.Event). Run C es b.state) (sym reports.tells.history) reports.run) in
      let at = step_at C x.events x.place x.event (start (code_system C)) b.state run x.within in
      let step : CodeStep C at.0 (event_view x.event) at.1 = subst (λ (f : Event). CodeStep C at.0 (event_view f) at.1) x.here at.3 in
      let other = step_too C whole (map event_view (take x.place x.events)) at.0 x.state at.2 x.run (event_view x.event) at.1 step in
      x.no_step other.0 other.1

  -- nor is its end another, where it is the report's
  pub not_wrong : IsNamed e r.end → (n : ℕ) → IsWrongEnd C bytes n → ⊥
  not_wrong named n x =
      let same = one_meaning bytes r.history.items x.events e (Some x.ending) trace x.trace in
      let tells = told C whole limit (length x.events) r x.report reports x.reports (same.0 ∙ sym x.history) in
      let here : IsNamed (Some x.ending) r.end = subst (λ (d : Option Ending). IsNamed d r.end) same.1 named in
      x.other (here ∙ same_ending r.end x.report.end tells.end)

-- a report that was replayed, and one that ended otherwise, are of a trace of their events
trace_of : (C : Code) (bytes : List ℕ) (r : Report) (x : ReplaysTo C bytes r) → IsTrace bytes r.history.items x.ending
trace_of C bytes r x = subst (λ (es : List Event). IsTrace bytes es x.ending) (sym x.history) x.trace

pub no_step_replayed : (C : Code) (bytes : List ℕ) (n : ℕ) (r : Report) → IsCode C → IsFirstNoStep C bytes n → ReplaysTo C bytes r → ⊥
no_step_replayed C bytes n r whole s x = not_refused C whole bytes (length x.events) r x.ending (trace_of C bytes r x) x.reports n s

pub wrong_end_replayed : (C : Code) (bytes : List ℕ) (n : ℕ) (r : Report) → IsCode C → IsWrongEnd C bytes n → ReplaysTo C bytes r → ⊥
wrong_end_replayed C bytes n r whole w x = not_wrong C whole bytes (length x.events) r x.ending (trace_of C bytes r x) x.reports x.named n w

pub no_step_first : (C : Code) (bytes : List ℕ) (m n : ℕ) → IsCode C → IsFirstNoStep C bytes m → IsWrongEnd C bytes n → ⊥
no_step_first C bytes m n whole s w =
    not_refused C whole bytes (length w.events) w.report (Some w.ending) (subst (λ (es : List Event). IsTrace bytes es (Some w.ending)) (sym w.history) w.trace) w.reports m s
