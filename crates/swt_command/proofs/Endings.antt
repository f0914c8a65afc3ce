-- How a command ended that was not stopped, by its status.
use Rattle.std.proofs.Common.{◌≡◌, ◌∙◌, sym, ap, refl, subst, inl, inr, ◌⊎◌, ℕ, zero, suc, ◌<◌, Bool, true, false, List, [], ◌∷◌, length, get_or, arith, Some, None, Result, Ok, Err}
use Rattle.std.proofs.lemmas.Option.{slice_get-get_or}
use Rattle.std.specs.Prelude.{slice_get}
use Rattle.dataflow.specs.System.{In}
use Rattle.paths.specs.declared.faults.Fault.{Fault}
use Rattle.paths.specs.declared.statements.StatementInstance.{StatementInstance}
use Rattle.board_runs.specs.declared.report.End.{End}
use Rattle.board_runs.specs.declared.report.End.TheVariants as Was
use Rattle.board_runs.specs.declared.report.Report.{Report}
use Rattle.swt_arguments.specs.declared.line.Line.{Line}
use Rattle.swt_arguments.specs.declared.line.Line.TheVariants as Lines
use Rattle.swt_status.specs.Verdicts.{Verdict}
use Rattle.swt_status.specs.declared.status.Status.{Status}
use Rattle.swt_status.specs.Statuses.{end_status, number_of, report_status}
use Rattle.swt_status.specs.declared.stop.CommandStop.{CommandStop}
use Rattle.swt_status.specs.Troubles.{trouble_status}
use Rattle.swt_status.specs.declared.failure.CommandFailure.{CommandFailure}
use Rattle.swt_status.specs.declared.failure.CommandFailure.TheVariants as Is
use Rattle.swt_command.specs.declared.meaning_summary.MeaningSummary.{MeaningSummary}
use Rattle.swt_command.specs.Causes.{Accepted, AtLimit, Informed, IsDone, LeftBlocked, MetFault, Reported}
use Rattle.swt_command.specs.Checks.{HasVerdict, Judged, check_status}
use Rattle.swt_command.specs.Files.{Files}
use Rattle.swt_command.specs.Listings.{IsAcceptedAt}
use Rattle.swt_command.specs.Means.{mean_status, status_by}
use Rattle.swt_command.specs.Owes.{Does, Owes, status_of}
use Rattle.swt_command.specs.Sinks.{Held, Took}

-- the numbers of commands that refuse nothing and are not stopped
abbrev pub IsEnd : ℕ → Type 0
IsEnd n = (n ≡ 0) ⊎ ((2 < n) × (n < 6))

not_stopped : (t : CommandFailure) → IsEnd (number_of (trouble_status t)) → ⊥
not_stopped Is.Unread (inl e) = omega (arith, e)
not_stopped Is.Unread (inr h) = omega (arith, h.1)
not_stopped (Is.Refused r) (inl e) = omega (arith, e)
not_stopped (Is.Refused r) (inr h) = omega (arith, h.0)
not_stopped (Is.BadLine n) (inl e) = omega (arith, e)
not_stopped (Is.BadLine n) (inr h) = omega (arith, h.1)
not_stopped (Is.NotARun n) (inl e) = omega (arith, e)
not_stopped (Is.NotARun n) (inr h) = omega (arith, h.1)
not_stopped (Is.WrongEnd n) (inl e) = omega (arith, e)
not_stopped (Is.WrongEnd n) (inr h) = omega (arith, h.1)
not_stopped Is.BadCount (inl e) = omega (arith, e)
not_stopped Is.BadCount (inr h) = omega (arith, h.0)
not_stopped Is.NoThread (inl e) = omega (arith, e)
not_stopped Is.NoThread (inr h) = omega (arith, h.1)
not_stopped Is.Stranger (inl e) = omega (arith, e)
not_stopped Is.Stranger (inr h) = omega (arith, h.1)
not_stopped Is.Memory (inl e) = omega (arith, e)
not_stopped Is.Memory (inr h) = omega (arith, h.1)
not_stopped Is.Unprinted (inl e) = omega (arith, e)
not_stopped Is.Unprinted (inr h) = omega (arith, h.1)
not_stopped Is.Untraced (inl e) = omega (arith, e)
not_stopped Is.Untraced (inr h) = omega (arith, h.1)

-- what was printed whole, and the number that goes with it
module _ (line : Line) (files : Files) (out new : Held) (n : ℕ) where
  data Ended : Type 0 where
    reported : (r : Report) → Reported line files r out new → n ≡ number_of (report_status r) → Ended
    informed : (t : MeaningSummary) → Informed line files t out new → n ≡ number_of (mean_status t) → Ended
    accepted : n ≡ 0 → Accepted line files → Ended

all_accepted : (vs : List Verdict) → IsEnd (number_of (check_status vs)) → (number_of (check_status vs) ≡ 0) × ((place : ℕ) (v : Verdict) → slice_get vs place ≡ Some v → v ≡ None)
all_accepted [] h = (refl, λ place v e. absurd (cc (e)))
all_accepted (Some r ∷ vs) (inl e) = absurd (omega (arith, e))
all_accepted (Some r ∷ vs) (inr h) = absurd (omega (arith, h.0))
all_accepted (None ∷ vs) h = let k = all_accepted vs h in (k.0, by k.1)
  where
    by : ((place : ℕ) (v : Verdict) → slice_get vs place ≡ Some v → v ≡ None) → (place : ℕ) (v : Verdict) → slice_get (None ∷ vs) place ≡ Some v → v ≡ None
    by rest zero v e = cc (e)
    by rest (suc place) v e = rest place v e

accepted_at : (names : List (List ℕ)) (files : Files) (vs : List Verdict) (out new : Held) → Judged names files vs out new → ((place : ℕ) (v : Verdict) → slice_get vs place ≡ Some v → v ≡ None)
    → (place : ℕ) → place < length vs → IsAcceptedAt files place
accepted_at names files vs out new j all place l =
    let e = slice_get-get_or vs place None l in
    subst (λ (v : Verdict). HasVerdict files place v) (all place (get_or vs place None) e) (j.verdicts place (get_or vs place None) e)

-- a command that is not stopped has printed a report, a meaning, or the word on scripts
ended : (line : Line) (files : Files) (done : Result Status CommandStop) (out out_new trace trace_new : Held) → Does line files done out out_new trace trace_new → IsEnd (number_of (status_of done))
    → Ended line files out out_new (number_of (status_of done))
ended (Lines.Check names) files (Ok status) out out_new trace trace_new d h =
    let k = all_accepted d.0.0 (subst (λ (s : Status). IsEnd (number_of s)) d.0.3 h) in
    accepted (ap number_of d.0.3 ∙ k.0)
    (λ place l. accepted_at names files d.0.0 out out_new d.0.2 (λ at v e. k.1 at v e) place (omega (arith, l, d.0.1)))
ended (Lines.Mean file rounds) files (Ok status) out out_new trace trace_new d h =
    let m = d.0.1.2 in
    informed m.told ((d.0.1.0, d.0.1.1, m.is_told), subst (λ (text : List ℕ). Took out text out_new) m.text_is d.0.2) (ap number_of m.status_is)
ended (Lines.Code file form) files (Ok status) out out_new trace trace_new d h = accepted (ap number_of d.0.0) d.0.1.0
ended (Lines.Run file engines workers steps wanted) files (Ok status) out out_new trace trace_new d h = reported d.0 (d.1, d.3) (ap number_of d.2)
ended (Lines.Replay file events) files (Ok status) out out_new trace trace_new d h = reported d.0.0 (d.0.1, d.0.3) (ap number_of d.0.2)
ended line files (Err stop) out out_new trace trace_new d h = absurd (not_stopped stop.trouble h)

-- BY THE NUMBER

end_done : (end : End) (bs : List StatementInstance) → number_of (end_status end bs) ≡ 0 → (end ≡ Was.Quiet) × (bs ≡ [])
end_done (Was.Fault f) bs e = absurd (omega (arith, e))
end_done Was.Quiet [] e = (refl, refl)
end_done Was.Quiet (b ∷ bs) e = absurd (omega (arith, e))
end_done Was.Limit bs e = absurd (omega (arith, e))

end_fault : (end : End) (bs : List StatementInstance) → number_of (end_status end bs) ≡ 3 → (f : Fault) × (end ≡ Was.Fault f)
end_fault (Was.Fault f) bs e = (f, refl)
end_fault Was.Quiet [] e = absurd (omega (arith, e))
end_fault Was.Quiet (b ∷ bs) e = absurd (omega (arith, e))
end_fault Was.Limit bs e = absurd (omega (arith, e))

end_blocked : (end : End) (bs : List StatementInstance) → number_of (end_status end bs) ≡ 4 → (b : StatementInstance) × (end ≡ Was.Quiet) × In b bs
end_blocked (Was.Fault f) bs e = absurd (omega (arith, e))
end_blocked Was.Quiet [] e = absurd (omega (arith, e))
end_blocked Was.Quiet (b ∷ bs) e = (b, refl, inl refl)
end_blocked Was.Limit bs e = absurd (omega (arith, e))

end_limit : (end : End) (bs : List StatementInstance) → number_of (end_status end bs) ≡ 5 → end ≡ Was.Limit
end_limit (Was.Fault f) bs e = absurd (omega (arith, e))
end_limit Was.Quiet [] e = absurd (omega (arith, e))
end_limit Was.Quiet (b ∷ bs) e = absurd (omega (arith, e))
end_limit Was.Limit bs e = refl

told_done : (bs : List StatementInstance) (fs : List Fault) (enough : Bool) → number_of (status_by bs fs enough) ≡ 0 → (enough ≡ true) × (fs ≡ []) × (bs ≡ [])
told_done bs fs false e = absurd (omega (arith, e))
told_done bs (f ∷ fs) true e = absurd (omega (arith, e))
told_done (b ∷ bs) [] true e = absurd (omega (arith, e))
told_done [] [] true e = (refl, refl, refl)

told_fault : (bs : List StatementInstance) (fs : List Fault) (enough : Bool) → number_of (status_by bs fs enough) ≡ 3 → (f : Fault) × (enough ≡ true) × In f fs
told_fault bs fs false e = absurd (omega (arith, e))
told_fault bs (f ∷ fs) true e = (f, refl, inl refl)
told_fault (b ∷ bs) [] true e = absurd (omega (arith, e))
told_fault [] [] true e = absurd (omega (arith, e))

told_blocked : (bs : List StatementInstance) (fs : List Fault) (enough : Bool) → number_of (status_by bs fs enough) ≡ 4 → (b : StatementInstance) × (enough ≡ true) × (fs ≡ []) × In b bs
told_blocked bs fs false e = absurd (omega (arith, e))
told_blocked bs (f ∷ fs) true e = absurd (omega (arith, e))
told_blocked (b ∷ bs) [] true e = (b, refl, refl, inl refl)
told_blocked [] [] true e = absurd (omega (arith, e))

told_limit : (bs : List StatementInstance) (fs : List Fault) (enough : Bool) → number_of (status_by bs fs enough) ≡ 5 → enough ≡ false
told_limit bs fs false e = refl
told_limit bs (f ∷ fs) true e = absurd (omega (arith, e))
told_limit (b ∷ bs) [] true e = absurd (omega (arith, e))
told_limit [] [] true e = absurd (omega (arith, e))

module _ {line : Line} {files : Files} {out new : Held} {n : ℕ} where
  is_done : Ended line files out new n → n ≡ 0 → IsDone line files out new
  is_done (reported r is e) z = let k = end_done r.end r.blocked.items (sym e ∙ z) in inl (r, is, k.0, k.1)
  is_done (informed t is e) z = let k = told_done t.blocked.items t.faults.items t.enough (sym e ∙ z) in inr (inl (t, is, k.0, k.1, k.2))
  is_done (accepted e is) z = inr (inr is)

  met_fault : Ended line files out new n → n ≡ 3 → MetFault line files out new
  met_fault (reported r is e) z = let k = end_fault r.end r.blocked.items (sym e ∙ z) in inl (r, k.0, is, k.1)
  met_fault (informed t is e) z = let k = told_fault t.blocked.items t.faults.items t.enough (sym e ∙ z) in inr (t, k.0, is, k.1, k.2)
  met_fault (accepted e is) z = absurd (omega (arith, e, z))

  left_blocked : Ended line files out new n → n ≡ 4 → LeftBlocked line files out new
  left_blocked (reported r is e) z = let k = end_blocked r.end r.blocked.items (sym e ∙ z) in inl (r, k.0, is, k.1, k.2)
  left_blocked (informed t is e) z = let k = told_blocked t.blocked.items t.faults.items t.enough (sym e ∙ z) in inr (t, k.0, is, k.1, k.2, k.3)
  left_blocked (accepted e is) z = absurd (omega (arith, e, z))

  at_limit : Ended line files out new n → n ≡ 5 → AtLimit line files out new
  at_limit (reported r is e) z = inl (r, is, end_limit r.end r.blocked.items (sym e ∙ z))
  at_limit (informed t is e) z = inr (t, is, told_limit t.blocked.items t.faults.items t.enough (sym e ∙ z))
  at_limit (accepted e is) z = absurd (omega (arith, e, z))

-- a process whose number is none of a stop
owed : (line : Line) (files : Files) (out out_new err err_new trace trace_new : Held) (number n : ℕ) → Owes line files out out_new err err_new trace trace_new number → number ≡ n → IsEnd n
    → Ended line files out out_new number
owed line files out out_new err err_new trace trace_new number n o e end =
    subst (λ (k : ℕ). Ended line files out out_new k) (sym o.number_is)
    (ended line files o.ended out out_new trace trace_new o.does (subst (λ (k : ℕ). IsEnd k) (sym e ∙ o.number_is) end))

pub done_tells : (line : Line) (files : Files) (out out_new err err_new trace trace_new : Held) (number : ℕ) → Owes line files out out_new err err_new trace trace_new number → number ≡ 0 → IsDone line files out out_new
done_tells line files out out_new err err_new trace trace_new number o e = is_done (owed line files out out_new err err_new trace trace_new number 0 o e (inl refl)) e

pub fault_tells : (line : Line) (files : Files) (out out_new err err_new trace trace_new : Held) (number : ℕ) → Owes line files out out_new err err_new trace trace_new number → number ≡ 3 → MetFault line files out out_new
fault_tells line files out out_new err err_new trace trace_new number o e = met_fault (owed line files out out_new err err_new trace trace_new number 3 o e (inr (omega arith, omega arith))) e

pub blocked_tells : (line : Line) (files : Files) (out out_new err err_new trace trace_new : Held) (number : ℕ) → Owes line files out out_new err err_new trace trace_new number → number ≡ 4 → LeftBlocked line files out out_new
blocked_tells line files out out_new err err_new trace trace_new number o e = left_blocked (owed line files out out_new err err_new trace trace_new number 4 o e (inr (omega arith, omega arith))) e

pub limit_tells : (line : Line) (files : Files) (out out_new err err_new trace trace_new : Held) (number : ℕ) → Owes line files out out_new err err_new trace trace_new number → number ≡ 5 → AtLimit line files out out_new
limit_tells line files out out_new err err_new trace trace_new number o e = at_limit (owed line files out out_new err err_new trace trace_new number 5 o e (inr (omega arith, omega arith))) e
