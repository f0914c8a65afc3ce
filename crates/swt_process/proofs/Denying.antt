-- Checks that deny warnings, or do not.
use Rattle.std.proofs.Common.{◌≡◌, sym, refl, inl, inr, subst, ℕ, zero, suc, ◌<◌, Bool, false, List, [], ◌∷◌, arith, Some, true≢false}
use Rattle.host.specs.Events.{Event, Read, reads}
use Rattle.explain_warnings.specs.Warnings.{AreWarnings}
use Rattle.explain_warnings.specs.declared.warning.Warning.{Warning}
use Rattle.swt_arguments.specs.declared.line.Line.{Line}
use Rattle.swt_arguments.specs.declared.line.Line.TheVariants.{Check}
use Rattle.swt_arguments.specs.declared.request.Request.{Request}
use Rattle.swt_status.specs.Statuses.{number_of}
use Rattle.swt_status.specs.Troubles.{trouble_status}
use Rattle.swt_status.specs.declared.failure.CommandFailure.{CommandFailure}
use Rattle.swt_status.specs.declared.failure.CommandFailure.TheVariants as Is
use Rattle.swt_command.specs.Sinks.{Held, Kept}
use Rattle.swt_process.specs.declared.warnings.WarningState.{WarningState}
use Rattle.swt_process.specs.declared.warnings.WarningState.TheVariants.{Ignored, Silent, Warned, Unknown}
use Rattle.swt_process.specs.Ends.{Ends, Ran}
use Rattle.swt_process.specs.Process.{Obeys}
use Rattle.swt_process.specs.Warned.{Concludes, Follows, Found, IsJudged, IsNoted, Notes, denies_for, state_of}

-- what a text's warnings say is found in it
pub found_of : (src : List ℕ) (ws : List Warning) → AreWarnings src ws → Found (Some src) (state_of ws)
found_of src [] a = a
found_of src (w ∷ ws) a = (w, ws, a)

follows : (denies : Bool) (old new : WarningState) (rs : List Read) (r : Read) → IsNoted denies old rs → Follows old r.bytes new → IsNoted denies new (r ∷ rs)
follows denies Ignored new rs r n f = subst (λ (w : WarningState). IsNoted denies w (r ∷ rs)) (sym f) n
follows denies Silent Ignored rs r n f = absurd f
follows denies Silent Silent rs r n f = (n.0, (f, n.1))
follows denies Silent Warned rs r n f = (n.0, inl f)
follows denies Silent Unknown rs r n f = n.0
follows denies Warned new rs r n f = subst (λ (w : WarningState). IsNoted denies w (r ∷ rs)) (sym f) (n.0, inr n.1)
follows denies Unknown new rs r n f = subst (λ (w : WarningState). IsNoted denies w (r ∷ rs)) (sym f) n

-- the state after one more file
pub noted_next : (denies : Bool) (old new : WarningState) (before now : List Read) → IsNoted denies old before → Notes before now old new → IsNoted denies new now
noted_next denies old new before now n (r, e, f) = subst (λ (rs : List Read). IsNoted denies new rs) (sym e) (follows denies old new before r n f)

-- a check that was stopped ends with the status of its failure
above : (t : CommandFailure) → 0 < number_of (trouble_status t)
above Is.Unread = omega arith
above (Is.Refused r) = omega arith
above (Is.BadLine n) = omega arith
above (Is.NotARun n) = omega arith
above (Is.WrongEnd n) = omega arith
above Is.BadCount = omega arith
above Is.NoThread = omega arith
above Is.Stranger = omega arith
above Is.Memory = omega arith
above Is.Unprinted = omega arith
above Is.Untraced = omega arith

pub stopped : (denies : Bool) (rs : List Read) (t : CommandFailure) (number : ℕ) (mid : Held) → number ≡ number_of (trouble_status t) → Concludes denies rs number mid mid number
stopped denies rs t number mid e = inl (inr (subst (λ (k : ℕ). 0 < k) (sym e) (above t)), refl, refl)

judged : (denies : Bool) (w : WarningState) (rs : List Read) (mid err : Held) (status : ℕ) → IsNoted denies w rs → IsJudged w mid err status → Concludes denies rs 0 mid err status
judged denies Ignored rs mid err status n j = inl (inl n, j.0, j.1)
judged denies Silent rs mid err status n j = inr (n.0, refl, inl (j.0, n.1, j.1))
judged denies Warned rs mid err status n j = inr (n.0, refl, inr (inl (j.0, n.1, j.1)))
judged denies Unknown rs mid err status n j = inr (n, refl, inr (inr j))

-- a check that was not stopped ends by the state after its files
pub concluded : (denies : Bool) (w : WarningState) (rs : List Read) (number : ℕ) (mid err : Held) (status : ℕ) → IsNoted denies w rs → (0 < number → (status ≡ number) × Kept mid err)
    → (number ≡ 0 → IsJudged w mid err status) → Concludes denies rs number mid err status
concluded denies w rs zero mid err status n above_is zero_is = judged denies w rs mid err status n (zero_is refl)
concluded denies w rs (suc k) mid err status n above_is zero_is = let more : 0 < suc k = omega arith in inl (inr more, (above_is more).0, (above_is more).1)

-- without a denial the status is that of the line
pub undenied : (names : List (List ℕ)) (h : List Event) (out new err mid err_new : Held) (number status : ℕ) → Ran (Check names) h out new err mid number → Concludes false (reads h) number mid err_new status
    → Ran (Check names) h out new err err_new status
undenied names h out new err mid err_new number status ran (inl (x, s, k)) =
    subst (λ (n : ℕ). Ran (Check names) h out new err err_new n) (sym s) (subst (λ (m : Held). Ran (Check names) h out new err m number) (sym k) ran)
undenied names h out new err mid err_new number status ran (inr (e, z, d)) = absurd (true≢false (sym e))

-- a check ends by the state after its files
pub obeys_check : (request : Request) (names : List (List ℕ)) (h : List Event) (out new err err_new : Held) (status : ℕ) → request.line ≡ Check names
    → (number : ℕ) × (mid : Held) × Ran (Check names) h out new err mid number × Concludes request.deny (reads h) number mid err_new status → Obeys request h out new err err_new status
obeys_check request names h out new err err_new status e (number, mid, ran, concludes) = record {
  number = number;
  mid = mid;
  ends = subst (λ (line : Line). Ends line h out new err mid number) (sym e) (inl ran);
  concludes = subst (λ (line : Line). Concludes (denies_for line request.deny) (reads h) number mid err_new status) (sym e) concludes;
}
