use Rattle.std.proofs.Common.{rules, arith, ◌≡◌, ◌<◌, ◌+◌, length, get_or, drop, sym, ap, ◌∙◌}
use Rattle.std.proofs.lemmas.Grind.{common_steps}
use Rattle.flow.specs.declared.expression.Expr.{Expr}
use Rattle.flow.specs.View.{expr_view, exprs_view}
use Rattle.flow.specs.Names.{expr_names, exprs_names}
use Rattle.flow.specs.Tests.{are_declared}
use Rattle.flow.specs.Viewed.{owners_of}
use Rattle.flow.proofs.Fits.{and_true, and_false, exprs_step}
use Rattle.flow.proofs.naming.+expression.Goals as goal

pub are_expressions_fit-returns-then-not-is_expression_fit : goal.are_expressions_fit-returns-then-not-is_expression_fit
are_expressions_fit-returns-then-not-is_expression_fit g t c =
    let A = g.row.A.Denot in
    let os = owners_of {A = A} c.args.scopes.now in
    let es = c.args.expressions.now.items in
    let i = c.loop-expression.expression-index in
    let within : c.loop-expression.expression-index < length c.args.expressions.now.items = grind (arith, common_steps) in
    let item : get_or c.args.expressions.now.items c.loop-expression.expression-index c.expression-item.result ≡ c.expression-item.result = search rules in
    let here = ap (λ (z : Expr g.row.A.Denot). are_declared os (expr_names (expr_view z))) item ∙ sym c.is_expression_fit.ensures ∙ c.if-not-is_expression_fit.true in
    and_false (are_declared os (exprs_names (exprs_view (drop (i + 1) es)))) here
    ∙ sym (c.loop-expression.invariant ∙ exprs_step A os es i c.expression-item.result within)

pub are_expressions_fit-loop-expression-preserved : goal.are_expressions_fit-loop-expression-preserved
are_expressions_fit-loop-expression-preserved g t c =
    let A = g.row.A.Denot in
    let os = owners_of {A = A} c.args.scopes.now in
    let es = c.args.expressions.now.items in
    let i = c.loop-expression.expression-index in
    let within : c.loop-expression.expression-index < length c.args.expressions.now.items = grind (arith, common_steps) in
    let item : get_or c.args.expressions.now.items c.loop-expression.expression-index c.expression-item.result ≡ c.expression-item.result = search rules in
    let here = ap (λ (z : Expr g.row.A.Denot). are_declared os (expr_names (expr_view z))) item ∙ sym c.is_expression_fit.ensures ∙ c.if-not-is_expression_fit.false in
    c.loop-expression.invariant ∙ exprs_step A os es i c.expression-item.result within
    ∙ and_true (are_declared os (exprs_names (exprs_view (drop (i + 1) es)))) here
