-- What a run prints, against the script.
use Rattle.std.proofs.Common.{◌≡◌, ◌∙◌, sym, ap, refl, inl, inr, ◌⊎◌, ℕ, List, [], ◌∷◌, arith, Option, Result, Ok, Err}
use Rattle.std.specs.Prelude.{Bool, is_some}
use Rattle.language.specs.Resolved.{core}
use Rattle.task_code.specs.Code.{Code}
use Rattle.paths.specs.declared.statements.StatementInstance.{StatementInstance}
use Rattle.board_runs.specs.declared.report.End.{End}
use Rattle.board_runs.specs.declared.report.End.TheVariants as Was
use Rattle.board_runs.specs.declared.report.Report.{Report}
use Rattle.swt_trace.specs.Report.{ReportText}
use Rattle.swt_arguments.specs.declared.line.Line.{Line}
use Rattle.swt_arguments.specs.declared.line.Line.TheVariants as Lines
use Rattle.swt_arguments.specs.declared.line.Line.TheVariants.{Run, Replay}
use Rattle.swt_status.specs.declared.status.Status.{Status}
use Rattle.swt_status.specs.Statuses.{end_status, number_of}
use Rattle.swt_status.specs.declared.stop.CommandStop.{CommandStop}
use Rattle.swt_status.specs.declared.failure.CommandFailure.{CommandFailure}
use Rattle.swt_status.specs.declared.failure.CommandFailure.TheVariants as Is
use Rattle.swt_status.specs.Troubles.{trouble_status}
use Rattle.swt_command.specs.Causes.{Reported}
use Rattle.swt_command.specs.Files.{Files, HasCode}
use Rattle.swt_command.specs.OneThread.{IsMeantBy, PrintsWhole}
use Rattle.swt_command.specs.Owes.{Owes, status_of}
use Rattle.swt_command.specs.Runs.{Replays, Runs}
use Rattle.swt_command.specs.Sinks.{Held, Took}
use Rattle.swt_command.proofs.Reported.{IsOfRun, fault_report, of_one, of_threads, part_report, whole_report}

-- 0 and 4 are the statuses of quiet ends
abbrev IsQuiet : ℕ → Type 0
IsQuiet n = (n ≡ 0) ⊎ (n ≡ 4)

is_none_of : (n k : ℕ) → n ≡ k → (k ≡ 0 → ⊥) → (k ≡ 4 → ⊥) → IsQuiet n → ⊥
is_none_of n k e zero four (inl h) = zero (sym e ∙ h)
is_none_of n k e zero four (inr h) = four (sym e ∙ h)

quiet_end : (e : End) (blocked : List StatementInstance) (n : ℕ) → n ≡ number_of (end_status e blocked) → IsQuiet n → e ≡ Was.Quiet
quiet_end (Was.Fault f) blocked n is h = absurd (is_none_of n 3 is (λ x. omega (arith, x)) (λ x. omega (arith, x)) h)
quiet_end Was.Quiet [] n is h = refl
quiet_end Was.Quiet (b ∷ bs) n is h = refl
quiet_end Was.Limit blocked n is h = absurd (is_none_of n 5 is (λ x. omega (arith, x)) (λ x. omega (arith, x)) h)

not_stopped : (t : CommandFailure) (n : ℕ) → n ≡ number_of (trouble_status t) → IsQuiet n → ⊥
not_stopped Is.Unread n is h = is_none_of n 7 is (λ x. omega (arith, x)) (λ x. omega (arith, x)) h
not_stopped Is.NoThread n is h = is_none_of n 7 is (λ x. omega (arith, x)) (λ x. omega (arith, x)) h
not_stopped Is.Stranger n is h = is_none_of n 7 is (λ x. omega (arith, x)) (λ x. omega (arith, x)) h
not_stopped (Is.Refused r) n is h = is_none_of n 1 is (λ x. omega (arith, x)) (λ x. omega (arith, x)) h
not_stopped (Is.BadLine m) n is h = is_none_of n 7 is (λ x. omega (arith, x)) (λ x. omega (arith, x)) h
not_stopped (Is.NotARun m) n is h = is_none_of n 7 is (λ x. omega (arith, x)) (λ x. omega (arith, x)) h
not_stopped (Is.WrongEnd m) n is h = is_none_of n 7 is (λ x. omega (arith, x)) (λ x. omega (arith, x)) h
not_stopped Is.BadCount n is h = is_none_of n 2 is (λ x. omega (arith, x)) (λ x. omega (arith, x)) h
not_stopped Is.Memory n is h = is_none_of n 6 is (λ x. omega (arith, x)) (λ x. omega (arith, x)) h
not_stopped Is.Unprinted n is h = is_none_of n 7 is (λ x. omega (arith, x)) (λ x. omega (arith, x)) h
not_stopped Is.Untraced n is h = is_none_of n 7 is (λ x. omega (arith, x)) (λ x. omega (arith, x)) h

whole_printed : (files : Files) (code : Code) (r : Report) (out new : Held) → HasCode files 0 code → IsOfRun code r → Took out (ReportText r) new → r.end ≡ Was.Quiet → PrintsWhole files out new
whole_printed files code r out new (src, read, w) reports took quiet =
    (core w.table w.tree, (src, read, record { table = w.table; tree = w.tree; accepted = w.accepted; is = refl }), (r, quiet, whole_report src code r w reports quiet, took))

run_done : (files : Files) (engines workers steps : ℕ) (wanted : Bool) (done : Result Status CommandStop) (out out_new trace trace_new : Held) (n : ℕ) → Runs files engines workers steps wanted done out out_new trace trace_new
    → n ≡ number_of (status_of done) → IsQuiet n → PrintsWhole files out out_new
run_done files engines workers steps wanted (Ok status) out out_new trace trace_new n d is h =
    whole_printed files d.1.0 d.0 out out_new d.1.1 (of_threads d.1.0 steps engines workers d.0 d.1.3.0 d.1.3.1) d.3 (quiet_end d.0.end d.0.blocked.items n (is ∙ ap number_of d.2) h)
run_done files engines workers steps wanted (Err stop) out out_new trace trace_new n d is h = absurd (not_stopped stop.trouble n is h)

pub run_prints : (file : List ℕ) (engines workers steps : ℕ) (wanted : Option (List ℕ)) (files : Files) (out out_new err err_new trace trace_new : Held) (number : ℕ)
    → Owes (Run file engines workers steps wanted) files out out_new err err_new trace trace_new number → (number ≡ 0) ⊎ (number ≡ 4) → PrintsWhole files out out_new
run_prints file engines workers steps wanted files out out_new err err_new trace trace_new number o h =
    run_done files engines workers steps (is_some wanted) o.ended out out_new trace trace_new number o.does o.number_is h

replay_done : (files : Files) (done : Result Status CommandStop) (out out_new : Held) (n : ℕ) → Replays files done out out_new → n ≡ number_of (status_of done) → IsQuiet n → PrintsWhole files out out_new
replay_done files (Ok status) out out_new n d is h =
    whole_printed files d.1.0 d.0 out out_new d.1.1 (of_one d.1.0 _ d.0 d.1.2.2.reports) d.3 (quiet_end d.0.end d.0.blocked.items n (is ∙ ap number_of d.2) h)
replay_done files (Err stop) out out_new n d is h = absurd (not_stopped stop.trouble n is h)

pub replay_prints : (file events : List ℕ) (files : Files) (out out_new err err_new trace trace_new : Held) (number : ℕ)
    → Owes (Replay file events) files out out_new err err_new trace trace_new number → (number ≡ 0) ⊎ (number ≡ 4) → PrintsWhole files out out_new
replay_prints file events files out out_new err err_new trace trace_new number o h =
    replay_done files o.ended out out_new number o.does.0 o.number_is h

meant_by : (files : Files) (code : Code) (r : Report) → HasCode files 0 code → IsOfRun code r → IsMeantBy files r
meant_by files code r (src, read, w) t = (
  core w.table w.tree,
  (src, read, record { table = w.table; tree = w.tree; accepted = w.accepted; is = refl }),
  record {
    whole = λ quiet. whole_report src code r w t quiet;
    part = λ clean. part_report src code r w clean t;
    fault = λ clean f faulty. fault_report src code r f w clean t faulty;
  },
)

pub printed_meant : (line : Line) (files : Files) (r : Report) (out new : Held) → Reported line files r out new → IsMeantBy files r
printed_meant (Lines.Check names) files r out new h = absurd h
printed_meant (Lines.Mean file rounds) files r out new h = absurd h
printed_meant (Lines.Code file form) files r out new h = absurd h
printed_meant (Lines.Run file engines workers steps wanted) files r out new h = meant_by files h.0.0 r h.0.1 (of_threads h.0.0 steps engines workers r h.0.3.0 h.0.3.1)
printed_meant (Lines.Replay file events) files r out new h = meant_by files h.0.0 r h.0.1 (of_one h.0.0 _ r h.0.2.2.reports)
