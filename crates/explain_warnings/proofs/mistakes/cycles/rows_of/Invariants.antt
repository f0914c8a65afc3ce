use Rattle.std.proofs.Common.{◌≡◌, length}
use Rattle.explain_warnings.specs.View.{statements_in}
use Rattle.explain_warnings.proofs.Cycling.{AreRows}
use Rattle.explain_warnings.proofs.mistakes.cycles.rows_of.Given as goal

abbrev pub invariant-loop-stmt : goal.invariant-loop-stmt
invariant-loop-stmt g l = record {
  are_rows : AreRows (statements_in l.before) l.rows.items l.stmt-index;
  as_many : length l.rows.items ≡ l.stmt-index;
}
