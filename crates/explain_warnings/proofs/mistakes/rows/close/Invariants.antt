use Rattle.std.proofs.Common.{◌≡◌, length}
use Rattle.explain_warnings.specs.Ways.{in_rows, leads}
use Rattle.explain_warnings.proofs.mistakes.rows.close.Given as goal

abbrev pub invariant-loop-place : goal.invariant-loop-place
invariant-loop-place l = record {
  led : in_rows l.rows.items ≡ leads (in_rows l.fn.rows.items) l.place;
  as_many : length l.rows.items ≡ length l.fn.rows.items;
}
