use Rattle.std.proofs.Common.{sym, ◌∙◌}
use Rattle.syntax_trees.specs.View.{expression_view}
use Rattle.explain_warnings.proofs.Guarding.{first_right}
use Rattle.explain_warnings.proofs.mistakes.guards.right_compares.Goals as goal

pub returns-in-len1-up : goal.returns-in-len1-up
returns-in-len1-up g c =
    let view = expression_view {A = g.row.A.Denot} in
    c.compares.ensures
    ∙ sym (first_right view (view c.args.next.now) (view c.args.left.now) c.args.operands.now c.right-item.result c.in-len1-up.len_at_least c.right-item.is)
