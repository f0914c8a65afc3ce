use Rattle.std.proofs.Common.{◌≡◌, ℕ, ◌<◌, false}
use Rattle.explain_warnings.specs.Ways.{in_rows, meet}
use Rattle.explain_warnings.proofs.mistakes.rows.meets_below.Given as goal

abbrev pub invariant-loop-k : goal.invariant-loop-k
invariant-loop-k l = (j : ℕ) → j < l.k → meet (in_rows l.rows) l.i j ≡ false
