-- Texts that sinks are given in parts.
use Rattle.std.proofs.Common.{◌≡◌, ◌∙◌, sym, ap, refl, inl, inr, subst, ℕ, ◌<◌, List, ◌++◌, append_assoc, Result, Ok, Err, OnOk, OnErr}
use Rattle.values.specs.Sinks.{Beginning}
use Rattle.swt_trace.proofs.Parts.{in_front, behind}
use Rattle.swt_command.specs.Sinks.{Held, Took, Lost, Writes, Given}

-- what `write_all` says of a text
pub writes : {T E : Type 0} (r : Result T E) (old new : Held) (text : List ℕ) → OnOk r (new.bytes ≡ old.bytes ++ text) → OnErr r (Beginning old.bytes text new.bytes)
    → OnErr r (old.failures < new.failures) → OnOk r (new.failures ≡ old.failures) → Writes r old text new
writes (Ok x) old new text ok err failed none_failed = (ok, none_failed)
writes (Err e) old new text ok err failed none_failed = (err, failed)

pub took_both : (old mid new : Held) (front part : List ℕ) → Took old front mid → Took mid part new → Took old (front ++ part) new
took_both old mid new front part t u = (u.0 ∙ ap (λ xs. xs ++ part) t.0 ∙ append_assoc old.bytes front part, u.1 ∙ t.1)

pub lost_behind : (old mid new : Held) (front part : List ℕ) → Took old front mid → Lost mid part new → Lost old (front ++ part) new
lost_behind old mid new front part t l = (behind old.bytes mid.bytes new.bytes front part t.0 l.0, subst (λ (n : ℕ). n < new.failures) t.1 l.1)

-- what was lost in a first part is lost in the whole
pub lost_in_front : (old new : Held) (part rest : List ℕ) → Lost old part new → Lost old (part ++ rest) new
lost_in_front old new part rest l = (in_front old.bytes new.bytes part rest l.0, l.1)

-- a part behind one that was taken
pub writes_behind : {T E : Type 0} (r : Result T E) (old mid new : Held) (front part : List ℕ) → Took old front mid → Writes r mid part new → Writes r old (front ++ part) new
writes_behind (Ok x) old mid new front part t w = took_both old mid new front part t w
writes_behind (Err e) old mid new front part t w = lost_behind old mid new front part t w

pub given : {T E : Type 0} (r : Result T E) (old new : Held) (text : List ℕ) → Writes r old text new → Given old text new
given (Ok x) old new text w = inl w
given (Err e) old new text w = inr w
