-- The contracts of `run` and `replay`: the report of a run of the script.
use Rattle.std.specs.Prelude.{◌≡◌, ◌⊎◌, ℕ, zero, suc, ◌+◌, ◌<◌, Bool, true, false, List, Result, Ok, Err, Some}
use Rattle.task_code.specs.Code.{Code}
use Rattle.board_runs.specs.declared.report.Report.{Report}
use Rattle.swt_trace.specs.Replay.{ReplaysTo}
use Rattle.swt_trace.specs.Report.{ReportText, TraceOf}
use Rattle.workers.specs.declared.run.PoolCount.{PoolCount}
use Rattle.workers.specs.Reports.{IsReport}
use Rattle.swt_status.specs.declared.status.Status.{Status}
use Rattle.swt_status.specs.Statuses.{report_status}
use Rattle.swt_status.specs.declared.stop.CommandStop.{CommandStop}
use Rattle.swt_status.specs.declared.failure.CommandFailure.{CommandFailure}
use Rattle.swt_status.specs.declared.failure.CommandFailure.TheVariants as Is
use Rattle.swt_status.specs.Traces.{StopsAtTrace}
use Rattle.swt_command.specs.Files.{Files, source_of, HasCode, StopsAt}
use Rattle.swt_command.specs.Sinks.{Held, Kept, Took, Lost}
use Rattle.values.specs.Limits.{max_threads}

-- RUN

-- no engine, no worker, or more of both than allowed
abbrev pub IsBadCount : (engines workers : ℕ) → Type 0
IsBadCount engines workers = (engines ≡ 0) ⊎ ((workers ≡ 0) ⊎ (max_threads < engines + workers))

-- the report is of a run of the script's code by these numbers of engines and workers, of at most `steps` events
abbrev pub Ran : Files → (engines workers steps : ℕ) → Report → Type 0
Ran files engines workers steps r = (code : Code) × HasCode files 0 code × ¬ IsBadCount engines workers × ((p : PoolCount) × IsReport code steps engines workers r p)

-- the trace was written if it is requested
abbrev pub Traces : (wanted : Bool) → Report → Held → Held → Type 0
Traces true r trace new = Took trace (TraceOf r) new
Traces false r trace new = Kept trace new

-- stops before there is a report: the file cannot be read or its script is refused, the numbers of engines and workers
-- are not allowed, a thread could not be started, the thread counts contradict the board, or an allocation failed
abbrev pub StopsBeforeRun : Files → (engines workers : ℕ) → CommandFailure → Type 0
StopsBeforeRun files engines workers Is.BadCount = (code : Code) × HasCode files 0 code × IsBadCount engines workers
StopsBeforeRun files engines workers Is.NoThread = (code : Code) × HasCode files 0 code
StopsBeforeRun files engines workers Is.Stranger = (code : Code) × HasCode files 0 code
StopsBeforeRun files engines workers trouble = StopsAt files 0 trouble

-- a write of the report or of the trace failed, or the command stopped before with nothing written
abbrev pub StopsRun : Files → (engines workers steps : ℕ) → (wanted : Bool) → CommandFailure → (out out_new trace trace_new : Held) → Type 0
StopsRun files engines workers steps wanted Is.Unprinted out out_new trace trace_new =
    (r : Report) × Ran files engines workers steps r × Lost out (ReportText r) out_new × Kept trace trace_new
StopsRun files engines workers steps wanted Is.Untraced out out_new trace trace_new =
    (r : Report) × Ran files engines workers steps r × Took out (ReportText r) out_new × (wanted ≡ true) × Lost trace (TraceOf r) trace_new
StopsRun files engines workers steps wanted trouble out out_new trace trace_new = StopsBeforeRun files engines workers trouble × Kept out out_new × Kept trace trace_new

-- the report was printed, and then its trace was written if it is requested; or the command stops
abbrev pub Runs : Files → (engines workers steps : ℕ) → (wanted : Bool) → Result Status CommandStop → (out out_new trace trace_new : Held) → Type 0
Runs files engines workers steps wanted (Ok status) out out_new trace trace_new =
    (r : Report) × Ran files engines workers steps r × (status ≡ report_status r) × Took out (ReportText r) out_new × Traces wanted r trace trace_new
Runs files engines workers steps wanted (Err stop) out out_new trace trace_new =
    (stop.place ≡ 0) × StopsRun files engines workers steps wanted stop.trouble out out_new trace trace_new

-- REPLAY

-- the report is of the events of the second file, replayed on the code of the first
abbrev pub Replayed : Files → Report → Type 0
Replayed files r = (code : Code) × HasCode files 0 code × ((bytes : List ℕ) × (source_of files 1 ≡ Some bytes) × ReplaysTo code bytes r)

-- stops before there is a report: at the script, which has index 0, or at its trace, which has index 1
abbrev pub StopsBeforeReplay : Files → (place : ℕ) → CommandFailure → Type 0
StopsBeforeReplay files zero trouble = StopsAt files 0 trouble
StopsBeforeReplay files (suc zero) trouble = (code : Code) × HasCode files 0 code × StopsAtTrace (source_of files 1) code trouble
StopsBeforeReplay files (suc (suc place)) trouble = ⊥

-- a write of the report failed, or the command stopped before with nothing written
abbrev pub StopsReplay : Files → (place : ℕ) → CommandFailure → (out new : Held) → Type 0
StopsReplay files place Is.Unprinted out new = (r : Report) × Replayed files r × Lost out (ReportText r) new
StopsReplay files place trouble out new = StopsBeforeReplay files place trouble × Kept out new

-- the report was printed, or the command stops
abbrev pub Replays : Files → Result Status CommandStop → (out new : Held) → Type 0
Replays files (Ok status) out new = (r : Report) × Replayed files r × (status ≡ report_status r) × Took out (ReportText r) new
Replays files (Err stop) out new = StopsReplay files stop.place stop.trouble out new
