use Rattle.std.proofs.Common.{◌≡◌, ◌≤◌, ◌+◌, ◌*◌, length, map}
use Rattle.std.specs.List.{sum_by}
use Rattle.syntax_trees.specs.View.{expression_view, form_view}
use Rattle.language.specs.Numbered.{numbered_each, numbered_expression, expression_size, form_size}
use Rattle.syntax.proofs.NumberSteps.{half, left}
use Rattle.syntax.proofs.numbering.number_expressions.+numbered.Given as goal

abbrev pub decreases-expression : goal.decreases-expression
decreases-expression g l = 4 * expression_size (expression_view l.expr.now)

abbrev pub decreases-form : goal.decreases-form
decreases-form g l = 4 * form_size (form_view l.kind.now) + 2

abbrev pub decreases-expressions : goal.decreases-expressions
decreases-expressions g l = 4 * sum_by expression_size (map expression_view l.exprs.now.items) + 1

abbrev pub invariant-expressions-loop-i : goal.invariant-expressions-loop-i
invariant-expressions-loop-i g l = record {
  long : length l.exprs.items ≡ length l.initial.exprs.items;
  numbered : half expression_view numbered_expression expression_size l.exprs.items l.i l.next ≡ numbered_each numbered_expression expression_size l.fn.from (map expression_view l.initial.exprs.items);
  counts : l.next + left expression_view numbered_expression expression_size l.exprs.items l.i ≡ l.fn.from + sum_by expression_size (map expression_view l.initial.exprs.items);
  grows : l.fn.from ≤ l.next;
}
