use Rattle.std.proofs.Common.{◌≤◌, ◌<◌, ℕ}
use Rattle.std.specs.Prelude.{◌≢◌, slice_index}
use Rattle.explain_text.specs.Positions.{line_feed}
use Rattle.explain_text.proofs.quote.near_end.Given as goal

abbrev pub invariant-loop-i : goal.invariant-loop-i
invariant-loop-i l = (k : ℕ) → l.at ≤ k → k < l.i → slice_index l.text k ≢ line_feed
