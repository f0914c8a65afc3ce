use Rattle.std.proofs.Common.{sym, ◌∙◌}
use Rattle.syntax_trees.specs.View.{expression_view}
use Rattle.explain_warnings.proofs.Failing.{second_literal}
use Rattle.explain_warnings.proofs.mistakes.failures.right_overflows.Goals as goal

pub returns-in-len1-up : goal.returns-in-len1-up
returns-in-len1-up g c =
    let view = expression_view {A = g.row.A.Denot} in
    c.both_overflow.ensures
    ∙ sym (second_literal view c.args.operator (view c.args.left.now) c.args.operands.now c.right-item.result c.in-len1-up.len_at_least c.right-item.is)
