-- What borrows nothing.
use Rattle.std.proofs.Common.{ℕ, List, []}
use mathlib.Core.List.{Mem, not-mem-nil}

-- it lives as long as anything, so it can be let go at any time
pub free : (κ : List ℕ) (a : ℕ) → Mem a [] → Mem a κ
free κ a m = absurd (not-mem-nil m)
