-- Traces that are replayed.
use Rattle.std.specs.Prelude.{◌≡◌, ◌≢◌, ℕ, ◌+◌, ◌<◌, ◌≤◌, Bool, true, false, Option, Some, None, List, length, map, take, slice_index_or}
use Rattle.dataflow.specs.Machine as Machine
use Rattle.task_code.specs.declared.event.Event.{Event}
use Rattle.task_code.specs.Code.{Code}
use Rattle.task_code.specs.Machine.{CodeState, CodeStep, Run}
use Rattle.task_code.specs.View.{event_view}
use Rattle.board.specs.Board.{Accepts, Seen}
use Rattle.board_runs.specs.declared.report.End.{End}
use Rattle.board_runs.specs.declared.report.Report.{Report}
use Rattle.board_runs.specs.Report.{Reports}
use Rattle.swt_trace.specs.declared.ending.Ending.{Ending}
use Rattle.swt_trace.specs.Report.{TraceOf, ending_of}
use Rattle.swt_trace.specs.Trace.{IsTrace, max_events}

-- the event is not a step from the state
abbrev pub IsNoStep : Code → CodeState → Machine.Event → Type 0
IsNoStep C s e = (new : CodeState) → CodeStep C s e new → ⊥

-- the board accepts the event, or it is not a step and the board is unchanged
abbrev pub Takes : Seen → Machine.Event → Seen → Bool → Type 0
Takes old e new true = Accepts old e new
Takes old e new false = (new ≡ old) × IsNoStep old.code old.state e

-- no end is named, or it is this one
abbrev pub IsNamed : Option Ending → End → Type 0
IsNamed None d = Unit {0}
IsNamed (Some e) d = e ≡ ending_of d

-- the bytes are a trace of the report's events, which are run with their number as the limit, and no other end is
-- named
pub record ReplaysTo (C : Code) (bytes : List ℕ) (r : Report) : Type 0 where
  pub events : List Event
  pub ending : Option Ending
  pub trace : IsTrace bytes events ending
  pub history : r.history.items ≡ events
  pub reports : Reports C (length events) r
  pub named : IsNamed ending r.end

-- the bytes are a trace whose events before line n are a run; the event of line n is not a step from the state after
-- them
pub record IsFirstNoStep (C : Code) (bytes : List ℕ) (n : ℕ) : Type 0 where
  pub events : List Event
  pub ending : Option Ending
  pub trace : IsTrace bytes events ending
  pub place : ℕ
  pub within : place < length events
  pub number : n ≡ place + 2
  pub state : CodeState
  pub run : Run C (map event_view (take place events)) state
  pub event : Event
  pub here : slice_index_or events place event ≡ event
  pub no_step : IsNoStep C state (event_view event)

-- the bytes are a trace whose events are a run, and line n, which follows them, names a different end than its report
-- has
pub record IsWrongEnd (C : Code) (bytes : List ℕ) (n : ℕ) : Type 0 where
  pub events : List Event
  pub ending : Ending
  pub trace : IsTrace bytes events (Some ending)
  pub number : n ≡ length events + 2
  pub report : Report
  pub history : report.history.items ≡ events
  pub reports : Reports C (length events) report
  pub other : ending ≢ ending_of report.end

-- the bytes are the trace of the report; the report is of a run of the code with at most as many events as a trace
-- may have
pub record IsTraceOf (C : Code) (bytes : List ℕ) (r : Report) : Type 0 where
  pub limit : ℕ
  pub few : limit ≤ max_events
  pub reports : Reports C limit r
  pub text : bytes ≡ TraceOf r
