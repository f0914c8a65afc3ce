use Rattle.std.proofs.Common.{ap, map, slice_get, ◌∙◌}
use Rattle.language.specs.Tree.{expressions_of}
use Rattle.syntax_trees.specs.View.{expression_view}
use Rattle.explain_warnings.specs.Failures.{operands_overflow}
use Rattle.explain_warnings.proofs.mistakes.failures.chain_overflows.Goals as goal

pub returns : goal.returns
returns g c =
    let view = expression_view {A = g.row.A.Denot} in
    c.operands_overflow.ensures
    ∙ ap (λ o. operands_overflow o (expressions_of (map view c.as_slice.result.now))) c.operator_at.ensures
    ∙ ap (λ l. operands_overflow (slice_get c.args.operators.now.items 0) (expressions_of (map view l))) c.as_slice.ensures.value
