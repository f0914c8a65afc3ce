-- A run with a trace and the replay of that trace print one text.
use Rattle.std.proofs.Common.{◌≡◌, ◌≤◌, ◌⊎◌, inl, inr, ℕ, ◌+◌, Bool, true, List, [], ◌++◌, refl, sym, ap, ◌∙◌, subst, arith, Option, Some, Result, Ok, Err}
use Rattle.task_code.specs.Code.{Code}
use Rattle.board_runs.specs.declared.report.Report.{Report}
use Rattle.board_runs.specs.Report.{Reports}
use Rattle.compile.specs.Compiled.{IsCompiled}
use Rattle.workers.specs.declared.run.PoolCount.{PoolCount}
use Rattle.workers.specs.Reports.{IsReport}
use Rattle.swt_arguments.specs.declared.line.Line.TheVariants.{Replay, Run}
use Rattle.swt_command.specs.Files.{Files, source_of}
use Rattle.swt_command.specs.Owes.{Owes, status_of}
use Rattle.swt_command.specs.Runs.{Replayed, Replays, Runs}
use Rattle.swt_command.specs.Sinks.{Held, Took}
use Rattle.swt_command.proofs.Reported.{is_run}
use Rattle.swt_status.specs.declared.status.Status.{Status}
use Rattle.swt_status.specs.Statuses.{number_of, report_status}
use Rattle.swt_status.specs.declared.stop.CommandStop.{CommandStop}
use Rattle.swt_status.specs.declared.failure.CommandFailure.{CommandFailure}
use Rattle.swt_status.specs.declared.failure.CommandFailure.TheVariants as Is
use Rattle.swt_status.specs.Troubles.{trouble_status}
use Rattle.swt_trace.specs.Replay.{ReplaysTo}
use Rattle.swt_trace.specs.Report.{ReportText, TraceOf}
use Rattle.swt_trace.specs.Trace.{max_events}
use Rattle.swt_command.specs.Same.{IsOfReport, PrintOneText, TellSame}
use Rattle.swt_command.proofs.Alike.{replayed_same}
use Rattle.swt_command.proofs.Texts.{one_status, one_text}

-- a command that stops ends with another number
is_none_of : (n k : ℕ) → n ≡ k → (k ≡ 0 → ⊥) → (k ≡ 3 → ⊥) → (k ≡ 4 → ⊥) → (k ≡ 5 → ⊥) → IsOfReport n → ⊥
is_none_of n k e zero three four five (inl h) = zero (sym e ∙ h)
is_none_of n k e zero three four five (inr (inl h)) = three (sym e ∙ h)
is_none_of n k e zero three four five (inr (inr (inl h))) = four (sym e ∙ h)
is_none_of n k e zero three four five (inr (inr (inr h))) = five (sym e ∙ h)

failed : (n : ℕ) → n ≡ 7 → IsOfReport n → ⊥
failed n e h = is_none_of n 7 e (λ x. omega (arith, x)) (λ x. omega (arith, x)) (λ x. omega (arith, x)) (λ x. omega (arith, x)) h

not_stopped : (t : CommandFailure) (n : ℕ) → n ≡ number_of (trouble_status t) → IsOfReport n → ⊥
not_stopped Is.Unread n is h = failed n is h
not_stopped (Is.Refused r) n is h = is_none_of n 1 is (λ x. omega (arith, x)) (λ x. omega (arith, x)) (λ x. omega (arith, x)) (λ x. omega (arith, x)) h
not_stopped (Is.BadLine m) n is h = failed n is h
not_stopped (Is.NotARun m) n is h = failed n is h
not_stopped (Is.WrongEnd m) n is h = failed n is h
not_stopped Is.BadCount n is h = is_none_of n 2 is (λ x. omega (arith, x)) (λ x. omega (arith, x)) (λ x. omega (arith, x)) (λ x. omega (arith, x)) h
not_stopped Is.NoThread n is h = failed n is h
not_stopped Is.Stranger n is h = failed n is h
not_stopped Is.Memory n is h = is_none_of n 6 is (λ x. omega (arith, x)) (λ x. omega (arith, x)) (λ x. omega (arith, x)) (λ x. omega (arith, x)) h
not_stopped Is.Unprinted n is h = failed n is h
not_stopped Is.Untraced n is h = failed n is h

-- what a run left behind that printed a report and wrote its trace
record HasRun (files : Files) (steps : ℕ) (out out_new trace trace_new : Held) (number : ℕ) : Type 0 where
  src : List ℕ
  read : source_of files 0 ≡ Some src
  code : Code
  compiled : IsCompiled src code
  report : Report
  reports : Reports code steps report
  number_is : number ≡ number_of (report_status report)
  printed : Took out (ReportText report) out_new
  traced : Took trace (TraceOf report) trace_new

reports_of : (code : Code) (steps engines workers : ℕ) (r : Report) (p : PoolCount) → IsReport code steps engines workers r p → Reports code steps r
reports_of code steps engines workers r p t = record {
  board = t.board;
  code = t.code;
  limit_is = t.limit_is;
  run = is_run code engines workers t.board.history (p.offered + p.full) t.board.state t.run;
  within = t.within;
  tells = t.tells;
}

run_by : (files : Files) (engines workers steps : ℕ) (done : Result Status CommandStop) (out out_new trace trace_new : Held) (n : ℕ) → Runs files engines workers steps true done out out_new trace trace_new
    → n ≡ number_of (status_of done) → IsOfReport n → HasRun files steps out out_new trace trace_new n
run_by files engines workers steps (Ok status) out out_new trace trace_new n d is h = record {
  src = d.1.1.0;
  read = d.1.1.1;
  code = d.1.0;
  compiled = d.1.1.2;
  report = d.0;
  reports = reports_of d.1.0 steps engines workers d.0 d.1.3.0 d.1.3.1;
  number_is = is ∙ ap number_of d.2;
  printed = d.3;
  traced = d.4;
}
run_by files engines workers steps (Err stop) out out_new trace trace_new n d is h = absurd (not_stopped stop.trouble n is h)

-- what a replay left behind that printed a report
record HasReplayed (files : Files) (out out_new : Held) (number : ℕ) : Type 0 where
  src : List ℕ
  read : source_of files 0 ≡ Some src
  code : Code
  compiled : IsCompiled src code
  bytes : List ℕ
  trace : source_of files 1 ≡ Some bytes
  report : Report
  replays : ReplaysTo code bytes report
  number_is : number ≡ number_of (report_status report)
  printed : Took out (ReportText report) out_new

replay_by : (files : Files) (done : Result Status CommandStop) (out out_new : Held) (n : ℕ) → Replays files done out out_new → n ≡ number_of (status_of done) → IsOfReport n → HasReplayed files out out_new n
replay_by files (Ok status) out out_new n d is h = record {
  src = d.1.1.0;
  read = d.1.1.1;
  code = d.1.0;
  compiled = d.1.1.2;
  bytes = d.1.2.0;
  trace = d.1.2.1;
  report = d.0;
  replays = d.1.2.2;
  number_is = is ∙ ap number_of d.2;
  printed = d.3;
}
replay_by files (Err stop) out out_new n d is h = absurd (not_stopped stop.trouble n is h)

one_some : (xs ys : List ℕ) → Some xs ≡ Some ys → xs ≡ ys
one_some xs ys e = cc

both : (files later : Files) (steps : ℕ) (out out_new trace trace_new again again_new : Held) (n m : ℕ) → steps ≤ max_events → HasRun files steps out out_new trace trace_new n → trace.bytes ≡ []
    → source_of later 0 ≡ source_of files 0 → source_of later 1 ≡ Some trace_new.bytes → HasReplayed later again again_new m → PrintOneText out out_new again again_new × (n ≡ m)
both files later steps out out_new trace trace_new again again_new n m few x empty script there y =
    let bytes : y.bytes ≡ TraceOf x.report = one_some y.bytes trace_new.bytes (sym y.trace ∙ there) ∙ x.traced.0 ∙ ap (λ (bs : List ℕ). bs ++ TraceOf x.report) empty in
    let one : y.src ≡ x.src = one_some y.src x.src (sym y.read ∙ script ∙ x.read) in
    let compiled : IsCompiled x.src y.code = subst (λ (src : List ℕ). IsCompiled src y.code) one y.compiled in
    let replays : ReplaysTo y.code (TraceOf x.report) y.report = subst (λ (bs : List ℕ). ReplaysTo y.code bs y.report) bytes y.replays in
    let same : TellSame x.report y.report = replayed_same x.src x.code y.code steps x.report x.compiled compiled few x.reports y.report replays in (
      record { text = ReportText x.report; first = x.printed; second = subst (λ (text : List ℕ). Took again text again_new) (sym (one_text x.report y.report same)) y.printed },
      x.number_is ∙ ap number_of (one_status x.report y.report same) ∙ sym y.number_is,
    )

pub one_report : (file name : List ℕ) (engines workers steps : ℕ) (files : Files) (out out_new err err_new trace trace_new : Held) (number : ℕ) → steps ≤ max_events
    → Owes (Run file engines workers steps (Some name)) files out out_new err err_new trace trace_new number → IsOfReport number → trace.bytes ≡ []
    → (script events : List ℕ) (later : Files) (again again_new said said_new kept kept_new : Held) (other : ℕ) → source_of later 0 ≡ source_of files 0 → source_of later 1 ≡ Some trace_new.bytes
    → Owes (Replay script events) later again again_new said said_new kept kept_new other → IsOfReport other → PrintOneText out out_new again again_new × (number ≡ other)
one_report file name engines workers steps files out out_new err err_new trace trace_new number few x h empty script events later again again_new said said_new kept kept_new other same there y k =
    both files later steps out out_new trace trace_new again again_new number other few
    (run_by files engines workers steps x.ended out out_new trace trace_new number x.does x.number_is h) empty same there
    (replay_by later y.ended again again_new other y.does.0 y.number_is k)
