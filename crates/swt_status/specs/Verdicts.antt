-- Whether a text is a script, and why it is refused.
use Rattle.std.specs.Prelude.{◌≡◌, ℕ, List, Option, Some, None}
use Rattle.compile.specs.Accepted.{IsScript, IsUnfit}
use Rattle.swt_status.specs.declared.refusal.Refusal.{Refusal}
use Rattle.swt_status.specs.Names.{refusal_of}

-- the text is not a script for this reason, at this span
abbrev pub IsRefusal : List ℕ → Refusal → Type 0
IsRefusal src r = IsUnfit src r.fault × (refusal_of r.fault ≡ Some r)

-- the result for a text: none if its script is accepted, otherwise the refusal
abbrev pub Verdict : Type 0
Verdict = Option Refusal

-- the text is a script, or it is refused for this reason
abbrev pub IsVerdict : List ℕ → Verdict → Type 0
IsVerdict src None = IsScript src
IsVerdict src (Some r) = IsRefusal src r
