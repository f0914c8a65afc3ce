use Rattle.std.proofs.Common.{◌≡◌, ◌+◌, ◌≤◌}
use Rattle.explain_text.specs.Positions.{BeginsLine, line_of}
use Rattle.explain_text.proofs.position.line_from.Given as goal

abbrev pub invariant-loop-i : goal.invariant-loop-i
invariant-loop-i l = (l.number ≡ line_of l.text l.i) × (l.number ≤ l.i + 1) × BeginsLine l.text l.i l.begin
