use Rattle.syntax_trees.specs.View.{expression_view}
use Rattle.explain_warnings.proofs.Guarding.{chain_compares}
use Rattle.explain_warnings.proofs.mistakes.guards.form_is_guard.Goals as goal

pub returns-then-first_fits : goal.returns-then-first_fits
returns-then-first_fits g c =
    chain_compares c.args.connective (expression_view {A = g.row.A.Denot} c.args.next.now) c.args.kind.now c.in-Chain.operators c.in-Chain.operands
    c.as_slice.result.now c.as_slice-then-first_fits.result.now c.first_fits.result c.operands_compare.result c.in-Chain.is
    c.as_slice.ensures.value c.as_slice-then-first_fits.ensures.value c.first_fits.ensures c.if-first_fits.true c.operands_compare.ensures
