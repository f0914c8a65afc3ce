use Rattle.std.proofs.Common.{◌++◌, List, map, refl, arith}
use Rattle.std.proofs.lemmas.Grind.{common_steps}
use Rattle.syntax_trees.specs.View.{expression_view}
use Rattle.language.specs.Tree.{Expression, expressions_of}
use Rattle.types.specs.Typed.{table_of}
use Rattle.assign_check.specs.Outline as outline
use Rattle.assign_check.specs.View.{steps_view}
use Rattle.language.proofs.Walks.{walked_more}
use Rattle.assign_check.proofs.outlining.reads.+read.Goals as goal

pub read_all-loop-expr-preserved : goal.read_all-loop-expr-preserved
read_all-loop-expr-preserved g t c =
    walked_more (expression_view {A = g.row.A.Denot}) (outline.read_in (table_of c.args.typed.now)) (λ (es : List Expression). outline.read_all (table_of c.args.typed.now) (expressions_of es)) (λ y ys. refl)
    (steps_view c.args.steps.now.items ++ outline.read_all (table_of c.args.typed.now) (expressions_of (map (expression_view {A = g.row.A.Denot}) c.args.exprs.now.items)))
    (steps_view c.loop-expr.steps.items) (steps_view c.read.new.steps.items) c.args.exprs.now.items c.loop-expr.expr-index c.expr-item.result
    c.loop-expr.invariant (grind (arith, common_steps)) (grind (arith, common_steps)) c.in_ok-read.ensures
