-- The refusal that a fault is.
use Rattle.std.proofs.Common.{◌≡◌, ◌∙◌, sym, ap, subst, ℕ, List, Option, Some, None}
use Rattle.std.specs.Prelude.{option_map}
use Rattle.lexer.specs.declared.token.Span.{Span}
use Rattle.compile.specs.declared.fault.CompileFault.{CompileFault}
use Rattle.compile.specs.Accepted.{IsUnfit}
use Rattle.compile.specs.Places.{span_of}
use Rattle.swt_status.specs.declared.refusal.Refusal.{Refusal}
use Rattle.swt_status.specs.Names.{refusal_of}
use Rattle.swt_status.specs.Verdicts.{IsRefusal}

same_fault : (fault : CompileFault) (r : Refusal) (at : Option Span) → Some r ≡ option_map (λ (at : Span). record { fault = fault; at = at }) at → r.fault ≡ fault
same_fault fault r None e = absurd (cc (e))
same_fault fault r (Some at) e =
    let p : ◌≡◌ {A = Refusal} r (record { fault = fault; at = at }) = cc in
    ap (λ (x : Refusal). x.fault) p

-- what is so of a fault is so of that of its refusal
is_of : (P : CompileFault → Type 0) (fault : CompileFault) (r : Refusal) → Some r ≡ refusal_of fault → P fault → P r.fault × (refusal_of r.fault ≡ Some r)
is_of P fault r e h =
    let p : r.fault ≡ fault = same_fault fault r (span_of fault) e in
    (subst P (sym p) h, ap (λ (f : CompileFault). refusal_of f) p ∙ sym e)

-- a text that is no script has the refusal that its fault is
pub is_unfit : (src : List ℕ) (fault : CompileFault) (r : Refusal) → Some r ≡ refusal_of fault → IsUnfit src fault → IsRefusal src r
is_unfit src fault r e h = is_of (IsUnfit src) fault r e h
