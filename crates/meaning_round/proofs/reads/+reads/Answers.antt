use Rattle.std.proofs.Common.{rules, arith, ◌≡◌, ◌<◌, ◌≤◌, ◌++◌, List, length, get_or, sym, ap, ◌∙◌}
use Rattle.std.proofs.lemmas.Grind.{common_steps}
use Rattle.std.proofs.lemmas.List.{take_all}
use Rattle.flow.specs.declared.expression.Expr.{Expr}
use Rattle.flow.specs.View.{expr_view, exprs_view}
use Rattle.meaning_round.specs.Reads.{expr_reads, exprs_reads}
use Rattle.meaning_round.proofs.Reading.{exprs_next}
use Rattle.meaning_round.proofs.reads.+reads.Goals as goal

pub add_exprs-loop-expr-preserved : goal.add_exprs-loop-expr-preserved
add_exprs-loop-expr-preserved g t c =
    let A = g.row.A.Denot in
    let within : c.loop-expr.expr-index < length c.args.exprs.now.items = grind (arith, common_steps) in
    let item : get_or c.args.exprs.now.items c.loop-expr.expr-index c.expr-item.result ≡ c.expr-item.result = search rules in
    exprs_next {A = A} c.args.fact_base.now c.args.instance c.args.exprs.now.items c.loop-expr.expr-index c.expr-item.result c.args.events.now.items c.loop-expr.events.items c.add_expr.new.events.items within c.loop-expr.invariant
    (c.in_ok-add_expr.ensures ∙ ap (λ (z : Expr A). c.loop-expr.events.items ++ expr_reads c.args.fact_base.now c.args.instance (expr_view {A = A} z)) (sym item))

pub add_exprs-returns : goal.add_exprs-returns
add_exprs-returns g t c =
    let A = g.row.A.Denot in
    let past : length c.args.exprs.now.items ≤ c.loop-expr.expr-index = grind (arith, common_steps) in
    c.loop-expr.invariant
    ∙ ap (λ (z : List (Expr A)). c.args.events.now.items ++ exprs_reads c.args.fact_base.now c.args.instance (exprs_view {A = A} z)) (take_all c.loop-expr.expr-index c.args.exprs.now.items past)
