use Rattle.std.proofs.Common.{ap, sym, subst, ◌∙◌, ◌≤◌, Some}
use Rattle.std.specs.Prelude.{slice_get}
use Rattle.syntax_trees.specs.View.{statement_view}
use Rattle.explain_warnings.specs.Cycles.{both_wait}
use Rattle.explain_warnings.specs.View.{statements_in}
use Rattle.explain_warnings.proofs.Cycling.{bit_next, bits_all, statement_at, statements_long}
use Rattle.explain_warnings.proofs.mistakes.cycles.row_of.Goals as goal

pub loop-k-preserved : goal.loop-k-preserved
loop-k-preserved g c =
    let s = statement_view {A = g.row.A.Denot} c.args.stmt.now in
    bit_next (λ k. both_wait (Some s) (slice_get (statements_in c.args.before.now) k)) c.loop-k.row c.with_bit-row.result c.loop-k.k c.waits_for.result
    c.loop-k.invariant
    (ap (both_wait (Some s)) (statement_at c.args.before.now c.loop-k.k c.index-before-k.result c.loop-k-test.true c.index-before-k.is)
    ∙ sym c.waits_for.ensures)
    c.with_bit-row.ensures

pub returns : goal.returns
returns g c =
    bits_all (statement_view {A = g.row.A.Denot} c.args.stmt.now) (statements_in c.args.before.now) c.loop-k.row c.loop-k.k c.loop-k.invariant
    (subst (λ n. n ≤ c.loop-k.k) (sym (statements_long c.args.before.now)) c.loop-k-test.false)
