-- Where commands stop.
use Rattle.std.proofs.Common.{◌≡◌, refl, sym, subst, ℕ, zero, suc, Bool, true, List, Option, Some, None, Result, Ok, Err}
use Rattle.std.specs.Prelude.{IsErrAnd, MatchResult}
use Rattle.board_runs.specs.declared.report.Report.{Report}
use Rattle.swt_trace.specs.Report.{ReportText, TraceOf}
use Rattle.task_code.specs.Code.{Code}
use Rattle.swt_status.specs.declared.status.Status.{Status}
use Rattle.swt_status.specs.Statuses.{report_status}
use Rattle.swt_status.specs.declared.stop.CommandStop.{CommandStop}
use Rattle.swt_status.specs.declared.failure.CommandFailure.{CommandFailure}
use Rattle.swt_status.specs.declared.failure.CommandFailure.TheVariants as Is
use Rattle.swt_status.specs.Traces.{StopsAtTrace}
use Rattle.swt_command.specs.Files.{Files, HasCode, StopsAt, source_of}
use Rattle.swt_command.specs.Listings.{StopsListing}
use Rattle.swt_command.specs.Means.{StopsMean}
use Rattle.workers.specs.declared.fault.RunFault.{RunFault}
use Rattle.workers.specs.declared.fault.RunFault.TheVariants as Run
use Rattle.swt_trace.specs.Replay.{ReplaysTo}
use Rattle.swt_command.specs.Runs.{IsBadCount, Ran, Replayed, Runs, StopsBeforeReplay, StopsBeforeRun, StopsReplay, StopsRun, Traces}
use Rattle.swt_command.specs.Sinks.{Held, Lost, Took}
use Rattle.swt_command.specs.Troubles.{run_trouble}

-- a command that stops before anything is written
pub mean_stopped : (files : Files) (limit : ℕ) (t : CommandFailure) (out : Held) → StopsAt files 0 t → StopsMean files limit t out out
mean_stopped files limit Is.Unread out h = (h, refl)
mean_stopped files limit (Is.Refused r) out h = (h, refl)
mean_stopped files limit (Is.BadLine n) out h = (h, refl)
mean_stopped files limit (Is.NotARun n) out h = (h, refl)
mean_stopped files limit (Is.WrongEnd n) out h = (h, refl)
mean_stopped files limit Is.BadCount out h = (h, refl)
mean_stopped files limit Is.NoThread out h = (h, refl)
mean_stopped files limit Is.Stranger out h = (h, refl)
mean_stopped files limit Is.Memory out h = (h, refl)
mean_stopped files limit Is.Unprinted out h = absurd h.2
mean_stopped files limit Is.Untraced out h = (h, refl)

pub listing_stopped : (files : Files) (t : CommandFailure) (out : Held) → StopsAt files 0 t → StopsListing files t out out
listing_stopped files Is.Unread out h = (h, refl)
listing_stopped files (Is.Refused r) out h = (h, refl)
listing_stopped files (Is.BadLine n) out h = (h, refl)
listing_stopped files (Is.NotARun n) out h = (h, refl)
listing_stopped files (Is.WrongEnd n) out h = (h, refl)
listing_stopped files Is.BadCount out h = (h, refl)
listing_stopped files Is.NoThread out h = (h, refl)
listing_stopped files Is.Stranger out h = (h, refl)
listing_stopped files Is.Memory out h = (h, refl)
listing_stopped files Is.Unprinted out h = absurd h.2
listing_stopped files Is.Untraced out h = (h, refl)

pub run_stopped : (files : Files) (engines workers steps : ℕ) (wanted : Bool) (t : CommandFailure) (out trace : Held) → StopsBeforeRun files engines workers t → StopsRun files engines workers steps wanted t out out trace trace
run_stopped files engines workers steps wanted Is.Unread out trace h = (h, refl, refl)
run_stopped files engines workers steps wanted (Is.Refused r) out trace h = (h, refl, refl)
run_stopped files engines workers steps wanted (Is.BadLine n) out trace h = (h, refl, refl)
run_stopped files engines workers steps wanted (Is.NotARun n) out trace h = (h, refl, refl)
run_stopped files engines workers steps wanted (Is.WrongEnd n) out trace h = (h, refl, refl)
run_stopped files engines workers steps wanted Is.BadCount out trace h = (h, refl, refl)
run_stopped files engines workers steps wanted Is.NoThread out trace h = (h, refl, refl)
run_stopped files engines workers steps wanted Is.Stranger out trace h = (h, refl, refl)
run_stopped files engines workers steps wanted Is.Memory out trace h = (h, refl, refl)
run_stopped files engines workers steps wanted Is.Unprinted out trace h = absurd h.2
run_stopped files engines workers steps wanted Is.Untraced out trace h = absurd h.2

-- a run whose report was printed, by what came of its trace
pub run_traced : (files : Files) (engines workers steps : ℕ) (wanted : Bool) (report : Report) (r : Result Status CommandStop) (out out_new trace trace_new : Held) → Ran files engines workers steps report → Took out (ReportText report) out_new
    → MatchResult r (λ status. (status ≡ report_status report) × Traces wanted report trace trace_new) (λ stop. (stop.place ≡ 0) × (stop.trouble ≡ Is.Untraced) × (wanted ≡ true) × Lost trace (TraceOf report) trace_new)
    → Runs files engines workers steps wanted r out out_new trace trace_new
run_traced files engines workers steps wanted report (Ok status) out out_new trace trace_new ran took h = (report, ran, h.0, took, h.1)
run_traced files engines workers steps wanted report (Err stop) out out_new trace trace_new ran took h =
    (h.0, subst (λ (t : CommandFailure). StopsRun files engines workers steps wanted t out out_new trace trace_new) (sym h.1) (report, ran, took, h.2, h.3))

-- what stops at a script stops a run before it begins
pub before_run : (files : Files) (engines workers : ℕ) (t : CommandFailure) → StopsAt files 0 t → StopsBeforeRun files engines workers t
before_run files engines workers Is.Unread h = h
before_run files engines workers (Is.Refused r) h = h
before_run files engines workers (Is.BadLine n) h = h
before_run files engines workers (Is.NotARun n) h = h
before_run files engines workers (Is.WrongEnd n) h = h
before_run files engines workers Is.BadCount h = absurd h.2
before_run files engines workers Is.NoThread h = absurd h.2
before_run files engines workers Is.Stranger h = absurd h.2
before_run files engines workers Is.Memory h = h
before_run files engines workers Is.Unprinted h = h
before_run files engines workers Is.Untraced h = h

not_at_trace : (source : Option (List ℕ)) (code : Code) → StopsAtTrace source code Is.Unprinted → ⊥
not_at_trace None code h = h
not_at_trace (Some bytes) code h = h

-- what stops at the script stops a replay before it begins
pub at_script : (files : Files) (stop : CommandStop) → stop.place ≡ 0 → StopsAt files 0 stop.trouble → StopsBeforeReplay files stop.place stop.trouble
at_script files stop e h = subst (λ (n : ℕ). StopsBeforeReplay files n stop.trouble) (sym e) h

-- and so does a trace that cannot be read
pub no_trace : (files : Files) (code : Code) (stop : CommandStop) → HasCode files 0 code → stop.place ≡ 1 → stop.trouble ≡ Is.Unread → source_of files 1 ≡ None → StopsBeforeReplay files stop.place stop.trouble
no_trace files code stop has e t none =
    subst (λ (n : ℕ). StopsBeforeReplay files n stop.trouble) (sym e)
    (subst (λ (x : CommandFailure). StopsBeforeReplay files 1 x) (sym t) (code, has, subst (λ (o : Option (List ℕ)). StopsAtTrace o code Is.Unread) (sym none) tt))

-- and so does one that is none of the code's
at_trace : (files : Files) (code : Code) (bytes : List ℕ) (stop : CommandStop) → HasCode files 0 code → source_of files 1 ≡ Some bytes → stop.place ≡ 1 → StopsAtTrace (Some bytes) code stop.trouble → StopsBeforeReplay files stop.place stop.trouble
at_trace files code bytes stop has read e h =
    subst (λ (n : ℕ). StopsBeforeReplay files n stop.trouble) (sym e) (code, has, subst (λ (o : Option (List ℕ)). StopsAtTrace o code stop.trouble) (sym read) h)

-- a replay, by what came of its trace
pub run_again : (files : Files) (code : Code) (bytes : List ℕ) (r : Result Report CommandStop) → HasCode files 0 code → source_of files 1 ≡ Some bytes
    → MatchResult r (ReplaysTo code bytes) (λ stop. (stop.place ≡ 1) × StopsAtTrace (Some bytes) code stop.trouble) → MatchResult r (Replayed files) (λ stop. StopsBeforeReplay files stop.place stop.trouble)
run_again files code bytes (Ok report) has read h = (code, has, (bytes, read, h))
run_again files code bytes (Err stop) has read h = at_trace files code bytes stop has read h.0 h.1

-- what is so of the stop that is handed on is so of the result
pub handed_on : {T : Type 0} (P : T → Type 0) (Q : CommandStop → Type 0) (r : Result T CommandStop) (stop : CommandStop) → IsErrAnd r (λ s. s ≡ stop) → Q stop → MatchResult r P Q
handed_on P Q (Ok x) stop h q = absurd h
handed_on P Q (Err s) stop h q = subst Q (sym h) q

-- nothing of a report was written
no_unprinted : (files : Files) (place : ℕ) → StopsBeforeReplay files place Is.Unprinted → ⊥
no_unprinted files zero h = h.2
no_unprinted files (suc zero) h = not_at_trace (source_of files 1) h.0 h.2
no_unprinted files (suc (suc n)) h = h

pub replay_stopped : (files : Files) (place : ℕ) (t : CommandFailure) (out : Held) → StopsBeforeReplay files place t → StopsReplay files place t out out
replay_stopped files place Is.Unread out h = (h, refl)
replay_stopped files place (Is.Refused r) out h = (h, refl)
replay_stopped files place (Is.BadLine n) out h = (h, refl)
replay_stopped files place (Is.NotARun n) out h = (h, refl)
replay_stopped files place (Is.WrongEnd n) out h = (h, refl)
replay_stopped files place Is.BadCount out h = (h, refl)
replay_stopped files place Is.NoThread out h = (h, refl)
replay_stopped files place Is.Stranger out h = (h, refl)
replay_stopped files place Is.Memory out h = (h, refl)
replay_stopped files place Is.Unprinted out h = absurd (no_unprinted files place h)
replay_stopped files place Is.Untraced out h = (h, refl)

-- a run that gives no report
pub no_report : (files : Files) (engines workers : ℕ) (code : Code) (fault : RunFault) → HasCode files 0 code → (fault ≡ Run.BadCount → IsBadCount engines workers) → StopsBeforeRun files engines workers (run_trouble fault)
no_report files engines workers code Run.BadCount has bad = (code, has, bad refl)
no_report files engines workers code Run.Stranger has bad = (code, has)
no_report files engines workers code Run.Spawn has bad = (code, has)
no_report files engines workers code Run.Memory (src, read, w) bad = (src, read, tt)
