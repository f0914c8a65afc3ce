use Rattle.std.proofs.Common.{map, sym, ◌∙◌, arith}
use Rattle.std.proofs.lemmas.Grind.{common_steps}
use Rattle.syntax_trees.specs.View.{expression_view}
use Rattle.language.specs.Tree.{expressions_of}
use Rattle.explain_warnings.specs.Guards.{divided_from}
use Rattle.explain_warnings.proofs.Guarding.{divisor_more, divisor_found}
use Rattle.explain_warnings.proofs.mistakes.guards.divided_from.Goals as goal

pub returns-then-is_divisor : goal.returns-then-is_divisor
returns-then-is_divisor g c =
    divisor_found (expression_view {A = g.row.A.Denot}) c.args.name.now c.args.operators.now
    (divided_from c.args.name.now c.args.operators.now 0 (expressions_of (map (expression_view {A = g.row.A.Denot}) c.args.operands.now)))
    c.args.operands.now c.loop-i.i c.index-operands-i.result c.loop-i.invariant (grind (arith, common_steps)) c.index-operands-i.is
    (sym c.is_divisor.ensures ∙ c.if-is_divisor.true)

pub loop-i-preserved : goal.loop-i-preserved
loop-i-preserved g c =
    divisor_more (expression_view {A = g.row.A.Denot}) c.args.name.now c.args.operators.now
    (divided_from c.args.name.now c.args.operators.now 0 (expressions_of (map (expression_view {A = g.row.A.Denot}) c.args.operands.now)))
    c.args.operands.now c.loop-i.i c.index-operands-i.result c.loop-i.invariant (grind (arith, common_steps)) c.index-operands-i.is
    (sym c.is_divisor.ensures ∙ c.if-is_divisor.false)
