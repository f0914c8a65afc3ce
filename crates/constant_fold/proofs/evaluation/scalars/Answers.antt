use Rattle.std.proofs.Common.{map, ap, sym, ◌∙◌, ◌+◌, arith, drop, List}
use Rattle.std.specs.Prelude.{Result}
use Rattle.std.proofs.lemmas.Grind.{common_steps}
use Rattle.values.specs.declared.fault.OpFault.{OpFault}
use Rattle.values.specs.declared.value.Value.{Value}
use Rattle.language.specs.Tree.{expressions_of}
use Rattle.syntax_trees.specs.View.{expression_view}
use Rattle.constant_fold.specs.Folded.{scalars_of}
use Rattle.constant_fold.proofs.Literals.{behind, lacks_one, one_more}
use Rattle.constant_fold.proofs.evaluation.scalars.Goals as goal

pub returns-in-None : goal.returns-in-None
returns-in-None g c =
    sym (lacks_one (expression_view {A = g.row.A.Denot}) c.args.exprs.now c.loop-expr.expr-index c.expr-item.result _ c.loop-expr.found.items c.loop-expr.invariant
    (grind (arith, common_steps)) c.expr-item.is (sym c.in-None.is ∙ c.in_ok-scalar.ensures))

pub loop-expr-preserved : goal.loop-expr-preserved
loop-expr-preserved g c =
    one_more (expression_view {A = g.row.A.Denot}) c.args.exprs.now c.loop-expr.expr-index c.expr-item.result _ c.loop-expr.found.items c.in-Some.value c.loop-expr.invariant
    (grind (arith, common_steps)) c.expr-item.is (sym c.in-Some.is ∙ c.in_ok-scalar.ensures)
    ∙ ap (λ (ys : List (Result Value OpFault)). behind ys (scalars_of (expressions_of (map (expression_view {A = g.row.A.Denot}) (drop (c.loop-expr.expr-index + 1) c.args.exprs.now))))) (sym c.in_ok-push-in-Some.ensures.items)
