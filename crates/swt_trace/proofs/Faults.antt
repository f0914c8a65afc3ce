-- Faults of a trace that is run again, where memory is wanted.
use Rattle.std.proofs.Common.{◌≡◌, ◌∙◌, refl, sym, ℕ}
use Rattle.std.specs.Prelude.{Result, Ok, Err, IfErr}
use Rattle.swt_trace.specs.declared.fault.ReplayFault.{ReplayFault}
use Rattle.swt_trace.specs.declared.fault.ReplayFault.TheVariants as Fault

-- another end is no bad line, and no step that is none
pub end_alone : (fault : ReplayFault) (m n : ℕ) → fault ≡ Fault.WrongEnd m → fault ≡ Fault.BadLine n → ⊥
end_alone fault m n e f = absurd (cc (sym e ∙ f))

pub end_no_step : (fault : ReplayFault) (m n : ℕ) → fault ≡ Fault.WrongEnd m → fault ≡ Fault.NotARun n → ⊥
end_no_step fault m n e f = absurd (cc (sym e ∙ f))

-- what is none of the three is want of memory
pub no_other : (fault : ReplayFault) → ((n : ℕ) → fault ≡ Fault.BadLine n → ⊥) → ((n : ℕ) → fault ≡ Fault.NotARun n → ⊥) → ((n : ℕ) → fault ≡ Fault.WrongEnd n → ⊥) → fault ≡ Fault.Memory
no_other (Fault.BadLine n) line event other = absurd (line n refl)
no_other (Fault.NotARun n) line event other = absurd (event n refl)
no_other (Fault.WrongEnd n) line event other = absurd (other n refl)
no_other Fault.Memory line event other = refl

pub of_fault : {T E : Type 0} (r : Result T E) (P Q R : E → Type 0) → ((e : E) → P e → Q e → R e) → IfErr r P → IfErr r Q → IfErr r R
of_fault (Ok x) P Q R f h k = tt
of_fault (Err e) P Q R f h k = f e h k
