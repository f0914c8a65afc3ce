-- Why a process ended with status 1 or 2.
use Rattle.std.proofs.Common.{◌≡◌, ◌∙◌, sym, ap, refl, subst, inl, inr, ◌⊎◌, ℕ, zero, suc, Bool, true, false, List, [], ◌∷◌, arith, Option, Some, None, Result, Ok, Err}
use Rattle.std.specs.Prelude.{is_some, slice_get}
use Rattle.task_code.specs.Code.{Code}
use Rattle.paths.specs.declared.faults.Fault.{Fault}
use Rattle.paths.specs.declared.statements.StatementInstance.{StatementInstance}
use Rattle.board_runs.specs.declared.report.End.{End}
use Rattle.board_runs.specs.declared.report.End.TheVariants as Was
use Rattle.swt_arguments.specs.declared.line.Line.{Line}
use Rattle.swt_arguments.specs.declared.line.Line.TheVariants as Lines
use Rattle.swt_status.specs.declared.refusal.Refusal.{Refusal}
use Rattle.swt_status.specs.Verdicts.{Verdict}
use Rattle.swt_status.specs.declared.status.Status.{Status}
use Rattle.swt_status.specs.declared.status.Status.TheVariants as Ends
use Rattle.swt_status.specs.Statuses.{end_status, number_of}
use Rattle.swt_status.specs.declared.stop.CommandStop.{CommandStop}
use Rattle.swt_status.specs.declared.failure.CommandFailure.{CommandFailure}
use Rattle.swt_status.specs.declared.failure.CommandFailure.TheVariants as Is
use Rattle.swt_status.specs.Troubles.{trouble_status}
use Rattle.swt_status.specs.Traces.{StopsAtTrace}
use Rattle.swt_command.specs.Causes.{AsksBadly, SomeRefused}
use Rattle.swt_command.specs.Checks.{Checks, StopsBy, check_status}
use Rattle.swt_command.specs.Files.{Files, StopsAt, name_at, source_of}
use Rattle.swt_command.specs.Listings.{Lists, StopsListing}
use Rattle.swt_command.specs.Means.{Means, StopsMean, status_by}
use Rattle.swt_command.specs.Owes.{Does, Owes, status_of}
use Rattle.swt_command.specs.Runs.{Replays, Runs, StopsReplay, StopsRun, IsBadCount}
use Rattle.swt_command.specs.Sinks.{Held}

-- the status of a script that is refused, and of a line that asks for too much
abbrev IsCause : ℕ → Type 0
IsCause n = (n ≡ 1) ⊎ (n ≡ 2)

-- TROUBLE

refused_only : (t : CommandFailure) → number_of (trouble_status t) ≡ 1 → (r : Refusal) × (t ≡ Is.Refused r)
refused_only Is.Unread e = absurd (omega (arith, e))
refused_only (Is.Refused r) e = (r, refl)
refused_only (Is.BadLine n) e = absurd (omega (arith, e))
refused_only (Is.NotARun n) e = absurd (omega (arith, e))
refused_only (Is.WrongEnd n) e = absurd (omega (arith, e))
refused_only Is.BadCount e = absurd (omega (arith, e))
refused_only Is.NoThread e = absurd (omega (arith, e))
refused_only Is.Stranger e = absurd (omega (arith, e))
refused_only Is.Memory e = absurd (omega (arith, e))
refused_only Is.Unprinted e = absurd (omega (arith, e))
refused_only Is.Untraced e = absurd (omega (arith, e))

usage_only : (t : CommandFailure) → number_of (trouble_status t) ≡ 2 → t ≡ Is.BadCount
usage_only Is.Unread e = absurd (omega (arith, e))
usage_only (Is.Refused r) e = absurd (omega (arith, e))
usage_only (Is.BadLine n) e = absurd (omega (arith, e))
usage_only (Is.NotARun n) e = absurd (omega (arith, e))
usage_only (Is.WrongEnd n) e = absurd (omega (arith, e))
usage_only Is.BadCount e = refl
usage_only Is.Memory e = absurd (omega (arith, e))
usage_only Is.NoThread e = absurd (omega (arith, e))
usage_only Is.Stranger e = absurd (omega (arith, e))
usage_only Is.Unprinted e = absurd (omega (arith, e))
usage_only Is.Untraced e = absurd (omega (arith, e))

-- STATUSES OF COMMANDS THAT DID NOT STOP

mean_is_none : (bs : List StatementInstance) (fs : List Fault) (enough : Bool) (s : Status) → s ≡ status_by bs fs enough → IsCause (number_of s) → ⊥
mean_is_none bs fs enough s e h = by bs fs enough (subst (λ (x : Status). IsCause (number_of x)) e h)
  where
    by : (bs : List StatementInstance) (fs : List Fault) (enough : Bool) → IsCause (number_of (status_by bs fs enough)) → ⊥
    by bs fs false (inl h) = omega (arith, h)
    by bs fs false (inr h) = omega (arith, h)
    by bs (f ∷ fs) true (inl h) = omega (arith, h)
    by bs (f ∷ fs) true (inr h) = omega (arith, h)
    by (b ∷ bs) [] true (inl h) = omega (arith, h)
    by (b ∷ bs) [] true (inr h) = omega (arith, h)
    by [] [] true (inl h) = omega (arith, h)
    by [] [] true (inr h) = omega (arith, h)

end_is_none : (end : End) (bs : List StatementInstance) (s : Status) → s ≡ end_status end bs → IsCause (number_of s) → ⊥
end_is_none end bs s e h = by end bs (subst (λ (x : Status). IsCause (number_of x)) e h)
  where
    by : (end : End) (bs : List StatementInstance) → IsCause (number_of (end_status end bs)) → ⊥
    by (Was.Fault f) bs (inl h) = omega (arith, h)
    by (Was.Fault f) bs (inr h) = omega (arith, h)
    by Was.Quiet [] (inl h) = omega (arith, h)
    by Was.Quiet [] (inr h) = omega (arith, h)
    by Was.Quiet (b ∷ bs) (inl h) = omega (arith, h)
    by Was.Quiet (b ∷ bs) (inr h) = omega (arith, h)
    by Was.Limit bs (inl h) = omega (arith, h)
    by Was.Limit bs (inr h) = omega (arith, h)

refused_place : (vs : List Verdict) → number_of (check_status vs) ≡ 1 → (place : ℕ) × (r : Refusal) × (slice_get vs place ≡ Some (Some r))
refused_place [] e = absurd (omega (arith, e))
refused_place (Some r ∷ vs) e = (0, r, refl)
refused_place (None ∷ vs) e = let k = refused_place vs e in (suc k.0, k.1, k.2)

check_is_no_usage : (vs : List Verdict) → number_of (check_status vs) ≡ 2 → ⊥
check_is_no_usage [] e = omega (arith, e)
check_is_no_usage (Some r ∷ vs) e = omega (arith, e)
check_is_no_usage (None ∷ vs) e = check_is_no_usage vs e

-- REFUSED

not_by_refusal : (name : List ℕ) (source : Option (List ℕ)) (r : Refusal) (mid new : Held) → StopsBy name source (Is.Refused r) mid new → ⊥
not_by_refusal name None r mid new h = h
not_by_refusal name (Some src) r mid new h = h

at_file : (files : Files) (r : Refusal) → StopsAt files 0 (Is.Refused r) → SomeRefused files
at_file files r h = (0, r, h.0, h.1, h.2)

no_refused_trace : (source : Option (List ℕ)) (code : Code) (r : Refusal) → StopsAtTrace source code (Is.Refused r) → ⊥
no_refused_trace None code r h = h
no_refused_trace (Some bytes) code r h = h

check_refused : (names : List (List ℕ)) (files : Files) (done : Result Status CommandStop) (out new : Held) → Checks names files done out new → number_of (status_of done) ≡ 1 → SomeRefused files
check_refused names files (Ok status) out new d e =
    let k = refused_place d.0 (ap number_of (sym d.3) ∙ e) in
    let v = d.2.verdicts k.0 (Some k.1) k.2 in
    (k.0, k.1, v.0, v.1, v.2)
check_refused names files (Err stop) out new d e =
    let k = refused_only stop.trouble e in
    absurd (not_by_refusal (name_at names stop.place) (source_of files stop.place) k.0 d.3.0 new (subst (λ (t : CommandFailure). StopsBy (name_at names stop.place) (source_of files stop.place) t d.3.0 new) k.1 d.3.2))

mean_refused : (files : Files) (limit : ℕ) (done : Result Status CommandStop) (out new : Held) → Means files limit done out new → number_of (status_of done) ≡ 1 → SomeRefused files
mean_refused files limit (Ok status) out new d e = let m = d.1.2 in absurd (mean_is_none m.told.blocked.items m.told.faults.items m.told.enough status m.status_is (inl e))
mean_refused files limit (Err stop) out new d e =
    let k = refused_only stop.trouble e in
    let h = (subst (λ (t : CommandFailure). StopsMean files limit t out new) k.1 d.1).0 in
    (0, k.0, h.0, h.1, h.2)

run_refused : (files : Files) (engines workers steps : ℕ) (wanted : Bool) (done : Result Status CommandStop) (out out_new trace trace_new : Held) → Runs files engines workers steps wanted done out out_new trace trace_new
    → number_of (status_of done) ≡ 1 → SomeRefused files
run_refused files engines workers steps wanted (Ok status) out out_new trace trace_new d e = absurd (end_is_none d.0.end d.0.blocked.items status d.2 (inl e))
run_refused files engines workers steps wanted (Err stop) out out_new trace trace_new d e =
    let k = refused_only stop.trouble e in
    at_file files k.0 (subst (λ (t : CommandFailure). StopsRun files engines workers steps wanted t out out_new trace trace_new) k.1 d.1).0

replay_stop_refused : (files : Files) (place : ℕ) (r : Refusal) (out new : Held) → StopsReplay files place (Is.Refused r) out new → SomeRefused files
replay_stop_refused files zero r out new h = at_file files r h.0
replay_stop_refused files (suc zero) r out new h = absurd (no_refused_trace (source_of files 1) h.0.0 r h.0.2)
replay_stop_refused files (suc (suc n)) r out new h = absurd h.0

replay_refused : (files : Files) (done : Result Status CommandStop) (out new : Held) → Replays files done out new → number_of (status_of done) ≡ 1 → SomeRefused files
replay_refused files (Ok status) out new d e = absurd (end_is_none d.0.end d.0.blocked.items status d.2 (inl e))
replay_refused files (Err stop) out new d e =
    let k = refused_only stop.trouble e in
    replay_stop_refused files stop.place k.0 out new (subst (λ (t : CommandFailure). StopsReplay files stop.place t out new) k.1 d)

listing_refused : (files : Files) (done : Result Status CommandStop) (out new : Held) → Lists files done out new → number_of (status_of done) ≡ 1 → SomeRefused files
listing_refused files (Ok status) out new d e = let z : number_of Ends.Done ≡ 1 = ap number_of (sym d.0) ∙ e in absurd (omega (arith, z))
listing_refused files (Err stop) out new d e =
    let k = refused_only stop.trouble e in
    at_file files k.0 (subst (λ (t : CommandFailure). StopsListing files t out new) k.1 d.1).0

does_refused : (line : Line) (files : Files) (done : Result Status CommandStop) (out out_new trace trace_new : Held) → Does line files done out out_new trace trace_new → number_of (status_of done) ≡ 1 → SomeRefused files
does_refused (Lines.Check names) files done out out_new trace trace_new d e = check_refused names files done out out_new d.0 e
does_refused (Lines.Mean file rounds) files done out out_new trace trace_new d e = mean_refused files rounds done out out_new d.0 e
does_refused (Lines.Code file form) files done out out_new trace trace_new d e = listing_refused files done out out_new d.0 e
does_refused (Lines.Run file engines workers steps wanted) files done out out_new trace trace_new d e = run_refused files engines workers steps (is_some wanted) done out out_new trace trace_new d e
does_refused (Lines.Replay file events) files done out out_new trace trace_new d e = replay_refused files done out out_new d.0 e

pub refused_tells : (line : Line) (files : Files) (out out_new err err_new trace trace_new : Held) (number : ℕ) → Owes line files out out_new err err_new trace trace_new number → number ≡ 1 → SomeRefused files
refused_tells line files out out_new err err_new trace trace_new number o e = does_refused line files o.ended out out_new trace trace_new o.does (sym o.number_is ∙ e)

-- USAGE

not_by_usage : (name : List ℕ) (source : Option (List ℕ)) (t : CommandFailure) (mid new : Held) → t ≡ Is.BadCount → StopsBy name source t mid new → ⊥
not_by_usage name None t mid new e h = subst (λ (x : CommandFailure). StopsBy name None x mid new) e h
not_by_usage name (Some src) t mid new e h = subst (λ (x : CommandFailure). StopsBy name (Some src) x mid new) e h

check_usage : (names : List (List ℕ)) (files : Files) (done : Result Status CommandStop) (out new : Held) → Checks names files done out new → number_of (status_of done) ≡ 2 → ⊥
check_usage names files (Ok status) out new d e = check_is_no_usage d.0 (ap number_of (sym d.3) ∙ e)
check_usage names files (Err stop) out new d e = not_by_usage (name_at names stop.place) (source_of files stop.place) stop.trouble d.3.0 new (usage_only stop.trouble e) d.3.2

mean_usage : (files : Files) (limit : ℕ) (done : Result Status CommandStop) (out new : Held) → Means files limit done out new → number_of (status_of done) ≡ 2 → ⊥
mean_usage files limit (Ok status) out new d e = let m = d.1.2 in mean_is_none m.told.blocked.items m.told.faults.items m.told.enough status m.status_is (inr e)
mean_usage files limit (Err stop) out new d e = (subst (λ (t : CommandFailure). StopsMean files limit t out new) (usage_only stop.trouble e) d.1).0.2

listing_usage : (files : Files) (done : Result Status CommandStop) (out new : Held) → Lists files done out new → number_of (status_of done) ≡ 2 → ⊥
listing_usage files (Ok status) out new d e = let z : number_of Ends.Done ≡ 2 = ap number_of (sym d.0) ∙ e in omega (arith, z)
listing_usage files (Err stop) out new d e = (subst (λ (t : CommandFailure). StopsListing files t out new) (usage_only stop.trouble e) d.1).0.2

run_usage : (files : Files) (engines workers steps : ℕ) (wanted : Bool) (done : Result Status CommandStop) (out out_new trace trace_new : Held) → Runs files engines workers steps wanted done out out_new trace trace_new
    → number_of (status_of done) ≡ 2 → IsBadCount engines workers
run_usage files engines workers steps wanted (Ok status) out out_new trace trace_new d e = absurd (end_is_none d.0.end d.0.blocked.items status d.2 (inr e))
run_usage files engines workers steps wanted (Err stop) out out_new trace trace_new d e = (subst (λ (t : CommandFailure). StopsRun files engines workers steps wanted t out out_new trace trace_new) (usage_only stop.trouble e) d.1).0.2

no_usage_trace : (source : Option (List ℕ)) (code : Code) → StopsAtTrace source code Is.BadCount → ⊥
no_usage_trace None code h = h
no_usage_trace (Some bytes) code h = h

bad_count_replay : (files : Files) (place : ℕ) (out new : Held) → StopsReplay files place Is.BadCount out new → ⊥
bad_count_replay files zero out new h = h.0.2
bad_count_replay files (suc zero) out new h = no_usage_trace (source_of files 1) h.0.0 h.0.2
bad_count_replay files (suc (suc n)) out new h = h.0

replay_usage : (files : Files) (done : Result Status CommandStop) (out new : Held) → Replays files done out new → number_of (status_of done) ≡ 2 → ⊥
replay_usage files (Ok status) out new d e = end_is_none d.0.end d.0.blocked.items status d.2 (inr e)
replay_usage files (Err stop) out new d e = bad_count_replay files stop.place out new (subst (λ (t : CommandFailure). StopsReplay files stop.place t out new) (usage_only stop.trouble e) d)

does_usage : (line : Line) (files : Files) (done : Result Status CommandStop) (out out_new trace trace_new : Held) → Does line files done out out_new trace trace_new → number_of (status_of done) ≡ 2 → AsksBadly line
does_usage (Lines.Check names) files done out out_new trace trace_new d e = check_usage names files done out out_new d.0 e
does_usage (Lines.Mean file rounds) files done out out_new trace trace_new d e = mean_usage files rounds done out out_new d.0 e
does_usage (Lines.Code file form) files done out out_new trace trace_new d e = listing_usage files done out out_new d.0 e
does_usage (Lines.Run file engines workers steps wanted) files done out out_new trace trace_new d e = run_usage files engines workers steps (is_some wanted) done out out_new trace trace_new d e
does_usage (Lines.Replay file events) files done out out_new trace trace_new d e = replay_usage files done out out_new d.0 e

pub usage_tells : (line : Line) (files : Files) (out out_new err err_new trace trace_new : Held) (number : ℕ) → Owes line files out out_new err err_new trace trace_new number → number ≡ 2 → AsksBadly line
usage_tells line files out out_new err err_new trace trace_new number o e = does_usage line files o.ended out out_new trace trace_new o.does (sym o.number_is ∙ e)
