use Rattle.std.proofs.Common.{Some}
use Rattle.std.specs.Prelude.{slice_get}
use Rattle.syntax_trees.specs.View.{statement_view}
use Rattle.explain_warnings.specs.Cycles.{both_wait}
use Rattle.explain_warnings.specs.View.{statements_in}
use Rattle.explain_warnings.proofs.Cycling.{AreBits}
use Rattle.explain_warnings.proofs.mistakes.cycles.row_of.Given as goal

abbrev pub invariant-loop-k : goal.invariant-loop-k
invariant-loop-k g l = AreBits (λ k. both_wait (Some (statement_view l.stmt)) (slice_get (statements_in l.before) k)) l.row l.k
