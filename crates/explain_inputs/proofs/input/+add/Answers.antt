use Rattle.std.proofs.Common.{rules, arith, ◌≡◌, ◌<◌, ◌++◌, length, get_or, refl}
use Rattle.std.proofs.lemmas.Grind.{common_steps}
use Rattle.std.specs.Prelude.{List}
use Rattle.flow.specs.declared.expression.Expr.{Expr}
use Rattle.flow.specs.View.{expr_view, exprs_view}
use Rattle.explain_inputs.specs.Inputs.{inputs_view, expr_inputs, exprs_inputs}
use Rattle.flow_index.proofs.Adding.{one_more}
use Rattle.explain_inputs.proofs.input.+add.Goals as goal

pub add_exprs-loop-expr-preserved : goal.add_exprs-loop-expr-preserved
add_exprs-loop-expr-preserved g t c =
    let A = g.row.A.Denot in
    let es = c.args.exprs.now.items in
    let within : c.loop-expr.expr-index < length c.args.exprs.now.items = grind (arith, common_steps) in
    let item : get_or c.args.exprs.now.items c.loop-expr.expr-index c.expr-item.result ≡ c.expr-item.result = search rules in
    one_more (λ (z : List (Expr A)). exprs_inputs (exprs_view {A = A} z)) (λ (z : Expr A). expr_inputs (expr_view {A = A} z)) (λ x ys. refl)
    (inputs_view c.args.inputs.now.items ++ exprs_inputs (exprs_view {A = A} es)) (inputs_view c.loop-expr.inputs.items) (inputs_view c.add_expr.new.inputs.items)
    es c.loop-expr.expr-index c.expr-item.result within item c.loop-expr.invariant c.in_ok-add_expr.ensures
