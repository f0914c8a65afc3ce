-- How a command has ended.
use Rattle.std.proofs.Common.{◌≡◌, ◌∙◌, sym, ap, refl, inl, inr, subst, ℕ, ◌<◌, Bool, List, [], ◌∷◌, length, arith, Option, Some, None, is_some, Result, Ok, Err, true, false}
use Rattle.host.specs.Events.{Event, given, is_unplaced, replaced}
use Rattle.host.specs.Traces.{IsKept}
use Rattle.paths.specs.declared.statements.StatementInstance.{StatementInstance}
use Rattle.board_runs.specs.declared.report.End.{End}
use Rattle.board_runs.specs.declared.report.End.TheVariants as Was
use Rattle.swt_arguments.specs.declared.line.Line.{Line}
use Rattle.swt_arguments.specs.declared.line.Line.TheVariants.{Check, Mean, Code, Run, Replay}
use Rattle.swt_status.specs.declared.status.Status.{Status}
use Rattle.swt_status.specs.Statuses.{end_status, number_of}
use Rattle.swt_status.specs.declared.stop.CommandStop.{CommandStop}
use Rattle.swt_status.specs.declared.failure.CommandFailure.{CommandFailure}
use Rattle.swt_status.specs.declared.failure.CommandFailure.TheVariants as Is
use Rattle.swt_status.specs.Troubles.{trouble_status}
use Rattle.swt_command.specs.Files.{Files}
use Rattle.swt_command.specs.Owes.{Does, Owes, Says, status_of}
use Rattle.swt_command.specs.Runs.{Runs, StopsRun}
use Rattle.swt_command.specs.Sinks.{Held, Given, Kept, Lost, held}
use Rattle.swt_command.specs.Troubles.{trouble_line}
use Rattle.swt_process.specs.Ends.{Did, is_reported}
use Rattle.swt_process.specs.Places.{trace_of}
use Rattle.std.proofs.lemmas.Bool.{both_ways}

-- WHAT IS SAID

-- no trouble ends a command with the number of a report
never : (t : CommandFailure) → is_reported (number_of (trouble_status t)) ≡ true → ⊥
never Is.Unread e = cc
never (Is.Refused r) e = cc
never (Is.BadLine n) e = cc
never (Is.NotARun n) e = cc
never (Is.WrongEnd n) e = cc
never Is.BadCount e = cc
never Is.NoThread e = cc
never Is.Stranger e = cc
never Is.Memory e = cc
never Is.Unprinted e = cc
never Is.Untraced e = cc

says_nothing : (line : Line) (ended : Result Status CommandStop) (err new : Held) → is_reported (number_of (status_of ended)) ≡ true → Says line ended err new → Kept err new
says_nothing line (Ok status) err new e s = s
says_nothing line (Err stop) err new e s = absurd (never stop.trouble e)

-- a command that ends with such a number has said nothing
pub quiet : {line : Line} {files : Files} {out out_new err err_new trace trace_new : Held} {number : ℕ} → Owes line files out out_new err err_new trace trace_new number
    → is_reported number ≡ true → Kept err err_new
quiet {line = line} {err = err} {err_new = err_new} o e = says_nothing line o.ended err err_new (subst (λ (n : ℕ). is_reported n ≡ true) o.number_is e) o.says

-- WHAT IS TRACED

-- a report comes with such a number
end_reported : (end : End) (bs : List StatementInstance) → is_reported (number_of (end_status end bs)) ≡ true
end_reported (Was.Fault f) bs = refl
end_reported Was.Quiet [] = refl
end_reported Was.Quiet (b ∷ bs) = refl
end_reported Was.Limit bs = refl

no_failure : (trace new : Held) (text : List ℕ) → trace.failures ≡ 0 → new.failures ≡ 0 → Lost trace text new → ⊥
no_failure trace new text e f l = omega (arith, e, f, l.1)

-- a run that stopped has left the trace as it was, unless a write of it failed
run_stop : (files : Files) (engines workers steps : ℕ) (wanted : Bool) (t : CommandFailure) (out out_new trace new : Held) → StopsRun files engines workers steps wanted t out out_new trace new
    → trace.failures ≡ 0 → new.failures ≡ 0 → Kept trace new
run_stop files engines workers steps wanted Is.Unread out out_new trace new h e f = h.2
run_stop files engines workers steps wanted (Is.Refused r) out out_new trace new h e f = h.2
run_stop files engines workers steps wanted (Is.BadLine n) out out_new trace new h e f = h.2
run_stop files engines workers steps wanted (Is.NotARun n) out out_new trace new h e f = h.2
run_stop files engines workers steps wanted (Is.WrongEnd n) out out_new trace new h e f = h.2
run_stop files engines workers steps wanted Is.BadCount out out_new trace new h e f = h.2
run_stop files engines workers steps wanted Is.NoThread out out_new trace new h e f = h.2
run_stop files engines workers steps wanted Is.Stranger out out_new trace new h e f = h.2
run_stop files engines workers steps wanted Is.Memory out out_new trace new h e f = h.2
run_stop files engines workers steps wanted Is.Unprinted out out_new trace new h e f = h.3
run_stop files engines workers steps wanted Is.Untraced out out_new trace new h e f = absurd (no_failure trace new _ e f h.4)

run_traces : (files : Files) (engines workers steps : ℕ) (wanted : Bool) (ended : Result Status CommandStop) (out out_new trace new : Held) → Runs files engines workers steps wanted ended out out_new trace new
    → (is_reported (number_of (status_of ended)) ≡ true → ⊥) → trace.failures ≡ 0 → new.failures ≡ 0 → Kept trace new
run_traces files engines workers steps wanted (Ok status) out out_new trace new d n e f =
    absurd (n (subst (λ (s : Status). is_reported (number_of s) ≡ true) (sym d.2) (end_reported d.0.end d.0.blocked.items)))
run_traces files engines workers steps wanted (Err stop) out out_new trace new d n e f = run_stop files engines workers steps wanted stop.trouble out out_new trace new d.1 e f

does_nothing : (line : Line) (files : Files) (ended : Result Status CommandStop) (out out_new trace new : Held) → Does line files ended out out_new trace new
    → (is_reported (number_of (status_of ended)) ≡ true → ⊥) → trace.failures ≡ 0 → new.failures ≡ 0 → Kept trace new
does_nothing (Check names) files ended out out_new trace new d n e f = d.1
does_nothing (Mean file rounds) files ended out out_new trace new d n e f = d.1
does_nothing (Code file form) files ended out out_new trace new d n e f = d.1
does_nothing (Run file engines workers steps wanted) files ended out out_new trace new d n e f = run_traces files engines workers steps _ ended out out_new trace new d n e f
does_nothing (Replay file events) files ended out out_new trace new d n e f = d.1

-- a command that ends with another number has left the trace as it was, unless a write of it failed
untouched : {line : Line} {files : Files} {out out_new err err_new trace trace_new : Held} {number : ℕ} → Owes line files out out_new err err_new trace trace_new number
    → (is_reported number ≡ true → ⊥) → trace.failures ≡ 0 → trace_new.failures ≡ 0 → Kept trace trace_new
untouched {line = line} {files = files} {out = out} {out_new = out_new} {trace = trace} {trace_new = trace_new} o n e f =
    does_nothing line files o.ended out out_new trace trace_new o.does (λ z. n (subst (λ (k : ℕ). is_reported k ≡ true) (sym o.number_is) z)) e f

-- a line that wants no trace leaves it as it was
run_stop_untraced : (files : Files) (engines workers steps : ℕ) (t : CommandFailure) (out out_new trace new : Held) → StopsRun files engines workers steps false t out out_new trace new → Kept trace new
run_stop_untraced files engines workers steps Is.Unread out out_new trace new h = h.2
run_stop_untraced files engines workers steps (Is.Refused r) out out_new trace new h = h.2
run_stop_untraced files engines workers steps (Is.BadLine n) out out_new trace new h = h.2
run_stop_untraced files engines workers steps (Is.NotARun n) out out_new trace new h = h.2
run_stop_untraced files engines workers steps (Is.WrongEnd n) out out_new trace new h = h.2
run_stop_untraced files engines workers steps Is.BadCount out out_new trace new h = h.2
run_stop_untraced files engines workers steps Is.NoThread out out_new trace new h = h.2
run_stop_untraced files engines workers steps Is.Stranger out out_new trace new h = h.2
run_stop_untraced files engines workers steps Is.Memory out out_new trace new h = h.2
run_stop_untraced files engines workers steps Is.Unprinted out out_new trace new h = h.3
run_stop_untraced files engines workers steps Is.Untraced out out_new trace new h = absurd (cc (h.3))

run_untraced : (files : Files) (engines workers steps : ℕ) (wanted : Option (List ℕ)) (ended : Result Status CommandStop) (out out_new trace new : Held) → wanted ≡ None
    → Runs files engines workers steps (is_some wanted) ended out out_new trace new → Kept trace new
run_untraced files engines workers steps None (Ok status) out out_new trace new n d = d.4
run_untraced files engines workers steps None (Err stop) out out_new trace new n d = run_stop_untraced files engines workers steps stop.trouble out out_new trace new d.1
run_untraced files engines workers steps (Some w) ended out out_new trace new n d = absurd (cc (n))

does_untraced : (line : Line) (files : Files) (ended : Result Status CommandStop) (out out_new trace new : Held) → trace_of line ≡ None → Does line files ended out out_new trace new → Kept trace new
does_untraced (Check names) files ended out out_new trace new n d = d.1
does_untraced (Mean file rounds) files ended out out_new trace new n d = d.1
does_untraced (Code file form) files ended out out_new trace new n d = d.1
does_untraced (Run file engines workers steps wanted) files ended out out_new trace new n d = run_untraced files engines workers steps wanted ended out out_new trace new n d
does_untraced (Replay file events) files ended out out_new trace new n d = d.1

pub untraced : {line : Line} {files : Files} {out out_new err err_new trace trace_new : Held} {number : ℕ} → Owes line files out out_new err err_new trace trace_new number
    → trace_of line ≡ None → Kept trace trace_new
untraced {line = line} {files = files} {out = out} {out_new = out_new} {trace = trace} {trace_new = trace_new} o n =
    does_untraced line files o.ended out out_new trace trace_new n o.does

-- HOW IT CLOSES

-- what the trace's file took, and how often that failed
pub same_held : (bytes more : List ℕ) (k n : ℕ) → bytes ≡ more → k ≡ n → held bytes k ≡ held more n
same_held bytes more k n e f = ap (λ bs. held bs k) e ∙ ap (λ j. held more j) f

module _ (line : Line) (files : Files) (place : List ℕ) (h : List Event) (out out_new err mid : Held) (failures number : ℕ) (trace new : Held) where
  owed : trace ≡ held [] 0 → new ≡ held (given h) failures → Owes line files out out_new err mid trace new number
      → Owes line files out out_new err mid (held [] 0) (held (given h) failures) number
  owed e f o =
      subst (λ (t : Held). Owes line files out out_new err mid (held [] 0) t number) f (subst (λ (t : Held). Owes line files out out_new err mid t new number) e o)

  pub did_close : trace ≡ held [] 0 → new ≡ held (given h) failures → Owes line files out out_new err mid trace new number → (failures ≡ 0 → IsKept place h) → (0 < failures → replaced h ≡ [])
      → Did line files place h out out_new err mid number
  did_close e f o k c = record { number = number; failures = failures; mid = mid; owes = owed e f o; closes = inl (refl, refl, k, c) }

  pub did_stop : trace ≡ held [] 0 → new ≡ held (given h) failures → Owes line files out out_new err mid trace new number → is_reported number ≡ false → (0 < failures → replaced h ≡ [])
      → Did line files place h out out_new err mid number
  did_stop e f o n c =
      did_close e f o (λ z. inl (ap (λ (t : Held). t.bytes) (untouched (owed e f o) (λ y. both_ways (is_reported number) n y) refl z))) c

  pub did_lose : (last : Held) → trace ≡ held [] 0 → new ≡ held (given h) failures → Owes line files out out_new err mid trace new number → is_reported number ≡ true → failures ≡ 0
      → 0 < length (given h) → is_unplaced place h ≡ true → Given mid (trouble_line Is.Untraced []) last → Did line files place h out out_new err last 7
  did_lose last e f o n z w u s = record { number = number; failures = failures; mid = mid; owes = owed e f o; closes = inr (refl, n, z, w, u, s) }
