use Rattle.std.proofs.Common.{◌≡◌, length}
use Rattle.explain_warnings.proofs.Bits.{AreJoined}
use Rattle.explain_warnings.proofs.mistakes.rows.pass.Given as goal

abbrev pub invariant-loop-i : goal.invariant-loop-i
invariant-loop-i l = record {
  joined : AreJoined l.place l.other l.fn.rows.items l.rows.items l.i;
  as_many : length l.rows.items ≡ length l.fn.rows.items;
}
