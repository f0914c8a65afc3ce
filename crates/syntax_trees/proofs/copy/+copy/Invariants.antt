use Rattle.std.proofs.Common.{◌≡◌, ◌+◌, ◌*◌, map, take}
use Rattle.std.specs.List.{sum_by}
use Rattle.syntax_trees.specs.View.{expression_view, form_view}
use Rattle.language.specs.Numbered.{expression_size, form_size}
use Rattle.syntax_trees.proofs.copy.+copy.Given as goal

abbrev pub decreases-copy_expr : goal.decreases-copy_expr
decreases-copy_expr g l = 3 * expression_size (expression_view l.expr.now)

abbrev pub decreases-copy_boxed : goal.decreases-copy_boxed
decreases-copy_boxed g l = 3 * expression_size (expression_view l.expr.now) + 1

abbrev pub decreases-copy_kind : goal.decreases-copy_kind
decreases-copy_kind g l = 3 * form_size (form_view l.kind.now) + 2

abbrev pub decreases-copy_exprs : goal.decreases-copy_exprs
decreases-copy_exprs g l = 3 * sum_by expression_size (map expression_view l.exprs.now.items) + 1

abbrev pub invariant-copy_exprs-loop-expr : goal.invariant-copy_exprs-loop-expr
invariant-copy_exprs-loop-expr g l = map expression_view l.copies.items ≡ map expression_view (take l.expr-index l.exprs.items)
