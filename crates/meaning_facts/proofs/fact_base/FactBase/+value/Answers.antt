use Rattle.std.proofs.Common.{rules, arith, ◌≡◌, ◌<◌, ◌+◌, ◌++◌, ◌∷◌, [], Some, List, Result, length, get_or, drop, sym, ap, ◌∙◌}
use Rattle.std.proofs.lemmas.Grind.{common_steps}
use Rattle.std.proofs.lemmas.Result.{IfOk-weaker}
use Rattle.std.specs.Prelude.{Option}
use Rattle.values.specs.declared.fault.OpFault.{OpFault}
use Rattle.values.specs.declared.value.Value.{Value}
use Rattle.values.specs.Operators.{evaluated}
use Rattle.flow.specs.declared.expression.Expr.{Expr}
use Rattle.flow.specs.View.{expr_view, exprs_view, operation_view}
use Rattle.meaning_steps.specs.Environment.{operated, worked, worked_all}
use Rattle.meaning_facts.specs.Sighted.{in_front, sight_of}
use Rattle.meaning_facts.proofs.Fronts.{front_step, view_operation}
use Rattle.meaning_facts.proofs.fact_base.FactBase.+value.Goals as goal

pub operands-loop-expr-preserved : goal.operands-loop-expr-preserved
operands-loop-expr-preserved g t c =
    let A = g.row.A.Denot in
    let G = sight_of c.args.self.now c.args.instance in
    let es = c.args.exprs.now.items in
    let within : c.loop-expr.expr-index < length c.args.exprs.now.items = grind (arith, common_steps) in
    let pushed : c.push.new.self.items ≡ c.loop-expr.values.items ++ c.in-Some.value ∷ [] = search rules in
    let item : get_or c.args.exprs.now.items c.loop-expr.expr-index c.expr-item.result ≡ c.expr-item.result = search rules in
    let given : c.in_ok-value.field-0 ≡ worked (sight_of c.args.self.now c.args.instance) (expr_view {A = g.row.A.Denot} c.expr-item.result) = search rules in
    let is : c.in_ok-value.field-0 ≡ Some c.in-Some.value = search rules in
    let came : worked (sight_of c.args.self.now c.args.instance) (expr_view {A = g.row.A.Denot} (get_or c.args.exprs.now.items c.loop-expr.expr-index c.expr-item.result)) ≡ Some c.in-Some.value =
    ap (λ (z : Expr g.row.A.Denot). worked (sight_of c.args.self.now c.args.instance) (expr_view {A = g.row.A.Denot} z)) item ∙ sym given ∙ is in
    front_step {A = A} G c.args.exprs.now.items c.loop-expr.expr-index c.expr-item.result c.loop-expr.values.items c.in-Some.value (worked_all G (exprs_view {A = A} c.args.exprs.now.items)) within c.loop-expr.invariant came
    ∙ ap (λ (z : List (Result Value OpFault)). in_front z (worked_all G (exprs_view {A = A} (drop (c.loop-expr.expr-index + 1) c.args.exprs.now.items)))) (sym pushed)

pub value_under-returns-in-Some-2 : goal.value_under-returns-in-Some-2
value_under-returns-in-Some-2 g t c =
    let A = g.row.A.Denot in
    let G = sight_of c.args.self.now c.args.instance in
    let o = c.in-Operation.operation in
    let came : Some c.in-Some-2.values.items ≡ worked_all (sight_of c.args.self.now c.args.instance) (exprs_view {A = g.row.A.Denot} c.in-Operation.operands.items) = grind (arith, common_steps) in
    IfOk-weaker c.apply_operation.result
    (λ (r : Option (Result Value OpFault)). r ≡ Some (evaluated (operation_view o) c.in-Some-2.values.items))
    (λ (r : Option (Result Value OpFault)). r ≡ worked G (expr_view {A = A} c.args.expr.now))
    (λ r e. e ∙ ap (operated (operation_view o)) came ∙ ap (worked G) (sym (ap (expr_view {A = A}) c.in-Operation.is ∙ view_operation o c.in-Operation.operands)))
    c.apply_operation.ensures
