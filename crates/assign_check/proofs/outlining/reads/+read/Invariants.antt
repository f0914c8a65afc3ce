use Rattle.std.proofs.Common.{◌≡◌, ◌++◌, map, drop}
use Rattle.syntax_trees.specs.View.{expression_view}
use Rattle.language.specs.Tree.{expressions_of}
use Rattle.types.specs.Typed.{table_of}
use Rattle.assign_check.specs.Outline as outline
use Rattle.assign_check.specs.View.{steps_view}
use Rattle.assign_check.proofs.outlining.reads.+read.Given as goal

abbrev pub invariant-read_all-loop-expr : goal.invariant-read_all-loop-expr
invariant-read_all-loop-expr g l =
    steps_view l.fn.steps.items ++ outline.read_all (table_of l.typed) (expressions_of (map expression_view l.exprs.items))
    ≡ steps_view l.steps.items ++ outline.read_all (table_of l.typed) (expressions_of (map expression_view (drop l.expr-index l.exprs.items)))
