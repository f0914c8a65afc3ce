use Rattle.std.proofs.Common.{◌++◌, List, map, refl, arith}
use Rattle.std.proofs.lemmas.Grind.{common_steps}
use Rattle.syntax_trees.specs.View.{expression_view}
use Rattle.language.specs.Tree.{Expression, expressions_of}
use Rattle.language.proofs.Walks.{walked_more}
use Rattle.explain_warnings.specs.Mentions.{reads_of, all_reads, operand_reads}
use Rattle.explain_warnings.proofs.Failing.{operands_more}
use Rattle.explain_warnings.proofs.occurrences.reads.+read.Goals as goal

pub read_all-loop-expr-preserved : goal.read_all-loop-expr-preserved
read_all-loop-expr-preserved g t c =
    walked_more (expression_view {A = g.row.A.Denot}) reads_of (λ (es : List Expression). all_reads (expressions_of es)) (λ y ys. refl)
    (c.args.name_uses.now.items ++ all_reads (expressions_of (map (expression_view {A = g.row.A.Denot}) c.args.exprs.now.items)))
    c.loop-expr.name_uses.items c.read.new.name_uses.items c.args.exprs.now.items c.loop-expr.expr-index c.expr-item.result
    c.loop-expr.invariant (grind (arith, common_steps)) (grind (arith, common_steps)) c.in_ok-read.ensures

pub read_operands-loop-operand-preserved : goal.read_operands-loop-operand-preserved
read_operands-loop-operand-preserved g t c = record {
  added = operands_more (expression_view {A = g.row.A.Denot}) c.args.operators.now.items
      (c.args.name_uses.now.items ++ operand_reads c.args.operators.now.items 0 (expressions_of (map (expression_view {A = g.row.A.Denot}) c.args.operands.now.items)))
      c.loop-operand.name_uses.items c.add_divisor.new.name_uses.items c.read.new.name_uses.items c.args.operands.now.items
      c.loop-operand.operand-index c.loop-operand.place c.operand-item.result c.loop-operand.invariant.added
      (grind (arith, common_steps)) (grind (arith, common_steps)) c.in_ok-add_divisor.ensures c.in_ok-read.ensures;
  within = omega (arith, c.loop-operand.invariant.within);
}
