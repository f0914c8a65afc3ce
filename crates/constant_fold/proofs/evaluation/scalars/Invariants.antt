use Rattle.std.proofs.Common.{◌≡◌, drop, map, option_map}
use Rattle.language.specs.Tree.{expressions_of}
use Rattle.syntax_trees.specs.View.{expression_view}
use Rattle.constant_fold.specs.Folded.{scalars_of}
use Rattle.constant_fold.specs.Made.{operands}
use Rattle.constant_fold.proofs.Literals.{behind}
use Rattle.constant_fold.proofs.evaluation.scalars.Given as goal

abbrev pub invariant-loop-expr : goal.invariant-loop-expr
invariant-loop-expr g l =
    option_map operands (scalars_of (expressions_of (map expression_view l.exprs)))
    ≡ behind l.found.items (scalars_of (expressions_of (map expression_view (drop l.expr-index l.exprs))))
