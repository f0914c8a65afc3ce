use Rattle.std.proofs.Common.{◌≡◌, ◌+◌, ◌*◌, ◌++◌, map, take, drop}
use denote.Param.Weighed.{most}
use Rattle.syntax_trees.proofs.tree.Expr.TheLaws.{the_size as expression_size}
use Rattle.syntax_trees.proofs.tree.ExprKind.TheLaws.{the_size as form_size}
use Rattle.syntax_trees.specs.View.{expression_view}
use Rattle.constant_fold.specs.Folded.{folded}
use Rattle.constant_fold.proofs.expression.+folded.Given as goal

abbrev pub invariant-each-loop-i : goal.invariant-each-loop-i
invariant-each-loop-i g l =
    goal.unvisited-each-loop-i g l
    × (map folded (map expression_view l.initial.exprs.items) ≡ map expression_view (take l.i l.exprs.items) ++ map folded (map expression_view (drop l.i l.exprs.items)))

abbrev pub decreases-expression : goal.decreases-expression
decreases-expression g l = 2 * expression_size g.row.A g.A.Allocator g.A.laws l.expr.now + 0

abbrev pub decreases-each : goal.decreases-each
decreases-each g l = 2 * most (expression_size g.row.A g.A.Allocator g.A.laws) l.exprs.now.items + 1

abbrev pub decreases-form : goal.decreases-form
decreases-form g l = 2 * form_size g.row.A g.A.Allocator g.A.laws l.kind.now + 1

abbrev pub decreases-parts : goal.decreases-parts
decreases-parts g l = 2 * form_size g.row.A g.A.Allocator g.A.laws l.kind + 0
