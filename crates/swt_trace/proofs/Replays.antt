-- The reports and faults of a trace that is run again.
use Rattle.std.proofs.Common.{◌≡◌, ◌∙◌, sym, ap, subst, ℕ, ◌+◌, ◌<◌, Bool, false, Option, Some, None, List, length, map, take, get_or, All}
use Rattle.std.proofs.lemmas.List.{get_or_default}
use Rattle.dataflow.specs.Machine as Machine
use Rattle.task_code.specs.declared.event.Event.{Event}
use Rattle.task_code.specs.Code.{Code}
use Rattle.task_code.specs.Machine.{Run}
use Rattle.task_code.specs.View.{event_view}
use Rattle.board.specs.Board.{IsWorker, Seen}
use Rattle.board_runs.specs.declared.report.Report.{Report}
use Rattle.board_runs.specs.Report.{Reports, Tells}
use Rattle.swt_trace.specs.declared.fault.ReplayFault.{ReplayFault}
use Rattle.swt_trace.specs.declared.fault.ReplayFault.TheVariants.{BadLine, Memory, NotARun, WrongEnd}
use Rattle.swt_trace.specs.declared.ending.Ending.{Ending}
use Rattle.swt_trace.specs.Replay.{IsFirstNoStep, IsNamed, IsNoStep, IsWrongEnd, ReplaysTo, Takes}
use Rattle.swt_trace.specs.Trace.{IsInRange, IsTrace, last_line, worker_of}
use Rattle.swt_trace.proofs.Events.{same_events}
use Rattle.swt_trace.proofs.Lines.{lines_are}

-- the number that a fault names
abbrev line_number : ReplayFault → ℕ
line_number (BadLine n) = n
line_number (NotARun n) = n
line_number (WrongEnd n) = n
line_number Memory = 0

-- the events of a trace are by workers
pub by_worker : (bytes : List ℕ) (events items : List Event) (place : ℕ) (d : Event) (e : Option Ending) → IsTrace bytes events e → items ≡ events → place < length items → IsWorker (worker_of (get_or items place d))
by_worker bytes events items place d e trace same l =
    let all : All IsInRange items = subst (λ (es : List Event). All IsInRange es) (sym same) (lines_are trace.behind events (last_line e) trace.lines).1 in
    (all place d l).worker

-- an event that is refused behind a run of those before it
pub no_step_at : (C : Code) (bytes : List ℕ) (events items : List Event) (place n : ℕ) (d : Event) (old new : Seen) (taken : Bool) (ending : Option Ending)
    → IsTrace bytes events ending → items ≡ events → place < length items → old.code ≡ C → old.history ≡ map event_view (take place items)
    → Takes old (event_view (get_or items place d)) new taken → taken ≡ false → Run new.code new.history new.state
    → NotARun (place + 2) ≡ NotARun n → IsFirstNoStep C bytes n
no_step_at C bytes events items place n d old new taken ending trace same l code history takes refused run e =
    let t = subst (λ (b : Bool). Takes old (event_view (get_or items place d)) new b) refused takes in
    let before : Run old.code old.history old.state = subst (λ (b : Seen). Run b.code b.history b.state) t.0 run in
    record {
      events = items;
      ending = ending;
      trace = subst (λ (es : List Event). IsTrace bytes es ending) (sym same) trace;
      place = place;
      within = l;
      number = sym (ap line_number e);
      state = old.state;
      run = subst (λ (h : List Machine.Event). Run C h old.state) history (subst (λ (K : Code). Run K old.history old.state) code before);
      event = get_or items place d;
      here = get_or_default items place _ d l;
      no_step = subst (λ (K : Code). IsNoStep K old.state (event_view (get_or items place d))) code t.1;
    }

-- a report of all events
pub told_events : (events : List Event) (b : Seen) (r : Report) → b.history ≡ map event_view events → Tells b r → r.history.items ≡ events
told_events events b r history tells = same_events r.history.items events (tells.history ∙ history)

pub told_run : (C : Code) (limit : ℕ) (b : Seen) (r : Report) → b.code ≡ C → b.limit ≡ limit → Reports b.code b.limit r → Reports C limit r
told_run C limit b r code is_limit reports = subst (λ (K : Code). Reports K limit r) code (subst (λ (n : ℕ). Reports b.code n r) is_limit reports)

-- which ends as the trace names it, or otherwise
pub replayed : (C : Code) (bytes : List ℕ) (events : List Event) (ending : Option Ending) (r s : Report)
    → IsTrace bytes events ending → r.history.items ≡ events → Reports C (length events) r → s ≡ r → IsNamed ending r.end → ReplaysTo C bytes s
replayed C bytes events ending r s trace history reports same named =
    let x : ReplaysTo C bytes r = record { events = events; ending = ending; trace = trace; history = history; reports = reports; named = named } in
    subst (λ (q : Report). ReplaysTo C bytes q) (sym same) x

pub wrong_end : (C : Code) (bytes : List ℕ) (events : List Event) (ending : Option Ending) (r : Report) (m n : ℕ)
    → IsTrace bytes events ending → r.history.items ≡ events → Reports C (length events) r → ¬ IsNamed ending r.end → m ≡ length events + 2 → WrongEnd m ≡ WrongEnd n → IsWrongEnd C bytes n
wrong_end C bytes events None r m n trace history reports other line e = absurd (other tt)
wrong_end C bytes events (Some ending) r m n trace history reports other line e = record {
  events = events;
  ending = ending;
  trace = trace;
  number = sym (ap line_number e) ∙ line;
  report = r;
  history = history;
  reports = reports;
  other = other;
}
