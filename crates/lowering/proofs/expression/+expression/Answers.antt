use Rattle.std.proofs.Common.{arith, ◌+◌, ◌++◌, IfOk, map, refl, ap, ap₂, sym, subst, ◌∙◌}
use Rattle.std.proofs.lemmas.Grind.{common_steps}
use Rattle.std.proofs.lemmas.Result.{IfOk-weaker, on_ok_weaker}
use Rattle.syntax_trees.specs.View.{word_of, expression_view, form_view}
use Rattle.language.specs.Tree as pure
use Rattle.language.specs.Tree.{expressions_of}
use Rattle.language.specs.Core as core
use Rattle.language.specs.Resolved as rules
use Rattle.language.specs.Table as table
use Rattle.values.specs.Operators.{Operation}
use Rattle.types.specs.Typed.{table_of, callee_name, builtin_name}
use Rattle.flow.specs.declared.cell.CellForm.{CellForm}
use Rattle.flow.specs.View as seen
use Rattle.flow.specs.View.{expr_view, exprs_view, names_view}
use Rattle.lowering.specs.View.{Leaves}
use Rattle.lowering.proofs.Operands.{before, from_on, operands_more, operands_all, arguments_more, arguments_all}
use Rattle.syntax_trees.proofs.Views.{view-Call, view-Chain, view-Element, view-Prefixed}
use Rattle.flow.proofs.Growing.{grows_again, grows_among, grows_as, grows_still}
use Rattle.lowering.specs.Nodes.{all_nodes, expression_nodes, form_nodes}
use Rattle.lowering.proofs.Anchors.{call_stands, form_among, node_among, nodes_at, stays}
use Rattle.lowering.proofs.Views.{view_operation, prefixed_found}
use Rattle.lowering.proofs.expression.+expression.Goals as goal

pub called-returns-in-BuiltIn-clause-leaves : goal.called-returns-in-BuiltIn-clause-leaves
called-returns-in-BuiltIn-clause-leaves g t c =
    let A = g.row.A.Denot in
    let tb = table_of c.args.typed.now in
    let es = expressions_of (map (expression_view {A = A}) c.args.arguments.now.items) in
    let w = word_of c.args.name.now in
    let P : table.Callee → Type 0 = λ f. IfOk c.built_in.result (λ x. Leaves c.args.parts.now.items c.built_in.new.parts.items (seen.form_view x) (rules.call_form tb w f es (rules.arguments_of tb es) (rules.operands_of tb es))) in
    let told : CellForm A → Type 0 = λ x. (v : pure.Word) (passed : rules.Arguments)
    → Leaves c.args.parts.now.items c.built_in.new.parts.items (seen.form_view x) (rules.call_form tb v (table.built_in (builtin_name c.in-BuiltIn.builtin)) es passed (rules.operands_of tb es)) in
    let wanted : CellForm A → Type 0 = λ x. Leaves c.args.parts.now.items c.built_in.new.parts.items (seen.form_view x) (rules.call_form tb w (table.built_in (builtin_name c.in-BuiltIn.builtin)) es (rules.arguments_of tb es) (rules.operands_of tb es)) in
    subst P (sym (ap callee_name c.in-BuiltIn.is) ∙ c.callee.ensures)
    (IfOk-weaker c.built_in.result told wanted (λ x is. is w (rules.arguments_of tb es)) c.built_in.ensures.leaves)

pub inputs-loop-expr-init : goal.inputs-loop-expr-init
inputs-loop-expr-init g t c =
    let A = g.row.A.Denot in
    let tb = table_of c.args.typed.now in
    let xs = c.args.exprs.now.items in (
      (refl, ap (λ ys. names_view ys ++ (rules.arguments_of tb (from_on (expression_view {A = A}) xs 0)).1) c.new-found.ensures.items),
      stays c.args.parts.now.items (all_nodes (map (expression_view {A = A}) xs)),
    )

pub inputs-loop-expr-preserved : goal.inputs-loop-expr-preserved
inputs-loop-expr-preserved g t c =
    let A = g.row.A.Denot in
    let tb = table_of c.args.typed.now in
    let xs = c.args.exprs.now.items in
    let i = c.loop-expr.expr-index in
    let more = arguments_more (expression_view {A = A}) tb xs i c.expr-item.result c.args.parts.now.items c.loop-expr.parts.items c.argument.new.parts.items
    (grind (arith, common_steps)) (grind (arith, common_steps)) c.loop-expr.found.items c.in_ok-argument.field-0 (rules.arguments_of tb (from_on (expression_view {A = A}) xs 0)) c.loop-expr.invariant.0 c.in_ok-argument.ensures.leaves in (
      (more.0, ap (λ ys. names_view ys ++ (rules.arguments_of tb (from_on (expression_view {A = A}) xs (i + 1))).1) c.in_ok-push.ensures.items ∙ more.1),
      grows_again c.loop-expr.invariant.1
          (grows_among c.in_ok-argument.ensures.cells (nodes_at (expression_view {A = A}) xs i c.expr-item.result (grind (arith, common_steps)) (grind (arith, common_steps)))),
    )

pub inputs-returns-clause-leaves : goal.inputs-returns-clause-leaves
inputs-returns-clause-leaves g t c =
    let A = g.row.A.Denot in
    let tb = table_of c.args.typed.now in
    let xs = c.args.exprs.now.items in
    arguments_all (expression_view {A = A}) tb xs c.loop-expr.expr-index c.args.parts.now.items c.loop-expr.parts.items (grind (arith, common_steps)) c.loop-expr.found.items
    (rules.arguments_of tb (from_on (expression_view {A = A}) xs 0)) c.loop-expr.invariant.0

pub kind_form-returns-in-Call-clause-leaves : goal.kind_form-returns-in-Call-clause-leaves
kind_form-returns-in-Call-clause-leaves g t c =
    let tb = table_of c.args.typed.now in
    let P : pure.Form → Type 0 = λ k. IfOk c.called.result (λ x. Leaves c.args.parts.now.items c.called.new.parts.items (seen.form_view x) (rules.form_in tb k)) in
    let es = expressions_of (map (expression_view {A = g.row.A.Denot}) c.in-Call.arguments.items) in
    subst P (ap (λ n. pure.call (word_of {A = g.row.A.Denot} n) es) c.deref-in-Call.ensures ∙ sym (ap form_view c.in-Call.is ∙ view-Call c.in-Call.name c.in-Call.arguments)) c.called.ensures.leaves

pub kind_form-returns-in_ok-operands-in-Prefixed-clause-leaves : goal.kind_form-returns-in_ok-operands-in-Prefixed-clause-leaves
kind_form-returns-in_ok-operands-in-Prefixed-clause-leaves g t c =
    let A = g.row.A.Denot in
    let tb = table_of c.args.typed.now in
    let one = c.in_ok-one-in-Prefixed.one in
    let ops = c.in_ok-operands-in-Prefixed.operands in
    prefixed_found tb c.in-Prefixed.prefix (form_view c.args.kind.now) (expression_view {A = A} c.deref-in-Prefixed.result.now) c.args.parts.now.items c.operand.new.parts.items one _
    (ap form_view c.in-Prefixed.is ∙ view-Prefixed c.in-Prefixed.prefix c.in-Prefixed.expr ∙ ap (λ e. pure.prefixed c.in-Prefixed.prefix (expression_view {A = A} e)) (sym c.deref-in-Prefixed.ensures))
    c.in_ok-one-in-Prefixed.ensures.leaves
    (view_operation c.of_prefix.result ops ∙ ap₂ core.operator c.of_prefix.ensures (ap exprs_view c.in_ok-operands-in-Prefixed.ensures))

pub kind_form-returns-in_ok-operation-in-Chain-clause-leaves : goal.kind_form-returns-in_ok-operation-in-Chain-clause-leaves
kind_form-returns-in_ok-operation-in-Chain-clause-leaves g t c =
    let A = g.row.A.Denot in
    let tb = table_of c.args.typed.now in
    let es = expressions_of (map (expression_view {A = A}) c.in-Chain.exprs.items) in
    let P : pure.Form → Type 0 = λ f. IfOk c.operation_on.result (λ x. Leaves c.args.parts.now.items c.operation_on.new.parts.items (seen.form_view x) (rules.form_in tb f)) in
    let Q : Operation → Type 0 = λ o. IfOk c.operation_on.result (λ x. Leaves c.args.parts.now.items c.operation_on.new.parts.items (seen.form_view x) (rules.computes o (rules.operands_of tb es))) in
    subst P (sym (ap form_view c.in-Chain.is ∙ view-Chain c.in-Chain.operators c.in-Chain.exprs))
    (subst Q (c.in_ok-operation-in-Chain.ensures ∙ ap rules.chain_operation c.as_slice-in-Chain.ensures.value) c.operation_on.ensures.leaves)

pub operands-loop-i-init : goal.operands-loop-i-init
operands-loop-i-init g t c =
    let A = g.row.A.Denot in
    let tb = table_of c.args.typed.now in
    let xs = c.args.exprs.now.items in (
      (refl, ap (λ ys. before (map (expr_view {A = A}) ys) (rules.operands_of tb (from_on (expression_view {A = A}) xs c.args.from)).1) c.new-found.ensures.items),
      stays c.args.parts.now.items (all_nodes (map (expression_view {A = A}) xs)),
    )

pub operands-loop-i-preserved : goal.operands-loop-i-preserved
operands-loop-i-preserved g t c =
    let A = g.row.A.Denot in
    let tb = table_of c.args.typed.now in
    let xs = c.args.exprs.now.items in
    let i = c.loop-i.i in
    let more = operands_more (expression_view {A = A}) tb xs i c.index.result.now c.args.parts.now.items c.loop-i.parts.items c.operand.new.parts.items
    (omega (arith, c.loop-i-test.true, c.len-i-end.ensures)) c.index.ensures c.loop-i.found.items c.in_ok-operand.field-0 (rules.operands_of tb (from_on (expression_view {A = A}) xs c.args.from)) c.loop-i.invariant.0 c.in_ok-operand.ensures.leaves in (
      (more.0, ap (λ ys. before (map expr_view ys) (rules.operands_of tb (from_on (expression_view {A = A}) xs (i + 1))).1) c.in_ok-push.ensures.items ∙ more.1),
      grows_again c.loop-i.invariant.1
          (grows_among c.in_ok-operand.ensures.cells (nodes_at (expression_view {A = A}) xs i c.index.result.now (omega (arith, c.loop-i-test.true, c.len-i-end.ensures)) c.index.ensures)),
    )

pub operands-returns-clause-leaves : goal.operands-returns-clause-leaves
operands-returns-clause-leaves g t c =
    let A = g.row.A.Denot in
    let tb = table_of c.args.typed.now in
    let xs = c.args.exprs.now.items in
    operands_all (expression_view {A = A}) tb xs c.loop-i.i c.args.parts.now.items c.loop-i.parts.items (omega (arith, c.loop-i-test.false, c.len-i-end.ensures)) c.loop-i.found.items
    (rules.operands_of tb (from_on (expression_view {A = A}) xs c.args.from)) c.loop-i.invariant.0

-- WHERE CELLS STAND

pub form-returns-clause-cells : goal.form-returns-clause-cells
form-returns-clause-cells g t c = on_ok_weaker c.kind_form.result (λ grown. grows_among grown (form_among g.row.A.Denot c.args.expr.now)) c.kind_form.ensures.cells

pub kind_form-returns-in_ok-inner_cell-in-Element-clause-cells : goal.kind_form-returns-in_ok-inner_cell-in-Element-clause-cells
kind_form-returns-in_ok-inner_cell-in-Element-clause-cells g t c =
    let A = g.row.A.Denot in
    grows_as (ap form_nodes (ap form_view c.in-Element.is ∙ view-Element c.in-Element.name c.in-Element.index) ∙ ap (λ e. expression_nodes (expression_view {A = A} e)) (sym c.deref.ensures))
    c.in_ok-inner_cell-in-Element.ensures.cells

pub kind_form-returns-in-Call-clause-cells : goal.kind_form-returns-in-Call-clause-cells
kind_form-returns-in-Call-clause-cells g t c =
    on_ok_weaker c.called.result (λ grown. grows_as (ap form_nodes (ap form_view c.in-Call.is ∙ view-Call c.in-Call.name c.in-Call.arguments)) grown) c.called.ensures.cells

pub kind_form-returns-in_ok-operands-in-Prefixed-clause-cells : goal.kind_form-returns-in_ok-operands-in-Prefixed-clause-cells
kind_form-returns-in_ok-operands-in-Prefixed-clause-cells g t c =
    let A = g.row.A.Denot in
    grows_as (ap form_nodes (ap form_view c.in-Prefixed.is ∙ view-Prefixed c.in-Prefixed.prefix c.in-Prefixed.expr) ∙ ap (λ e. expression_nodes (expression_view {A = A} e)) (sym c.deref-in-Prefixed.ensures))
    c.in_ok-one-in-Prefixed.ensures.cells

pub kind_form-returns-in_ok-operation-in-Chain-clause-cells : goal.kind_form-returns-in_ok-operation-in-Chain-clause-cells
kind_form-returns-in_ok-operation-in-Chain-clause-cells g t c =
    on_ok_weaker c.operation_on.result (λ grown. grows_as (ap form_nodes (ap form_view c.in-Chain.is ∙ view-Chain c.in-Chain.operators c.in-Chain.exprs)) grown) c.operation_on.ensures.cells

pub inner_cell-returns-clause-cells : goal.inner_cell-returns-clause-cells
inner_cell-returns-clause-cells g t c =
    on_ok_weaker c.add_cell.result (λ grown. grows_again c.in_ok-found.ensures.cells (grows_among grown (node_among g.row.A.Denot c.args.expr.now))) c.add_cell.ensures.cells

pub operand-returns-in_ok-add_cell-in-Read-clause-cells : goal.operand-returns-in_ok-add_cell-in-Read-clause-cells
operand-returns-in_ok-add_cell-in-Read-clause-cells g t c =
    grows_again c.in_ok-found.ensures.cells (grows_among c.in_ok-add_cell-in-Read.ensures.cells (node_among g.row.A.Denot c.args.expr.now))

pub operands-returns-clause-cells : goal.operands-returns-clause-cells
operands-returns-clause-cells g t c = c.loop-i.invariant.1

pub inputs-returns-clause-cells : goal.inputs-returns-clause-cells
inputs-returns-clause-cells g t c = c.loop-expr.invariant.1

pub called-returns-in_ok-push-in-Function-clause-cells : goal.called-returns-in_ok-push-in-Function-clause-cells
called-returns-in_ok-push-in-Function-clause-cells g t c =
    grows_still c.in_ok-call-in-Function.ensures.cells (call_stands c.call_of.new.parts.items c.push.new.self.items c.in_ok-call-in-Function.call c.in_ok-push-in-Function.ensures.items)

pub argument-returns-in-Some-clause-cells : goal.argument-returns-in-Some-clause-cells
argument-returns-in-Some-clause-cells g t c = stays c.args.parts.now.items _

pub built_in-returns-in_ok-array-in-Size-clause-cells : goal.built_in-returns-in_ok-array-in-Size-clause-cells
built_in-returns-in_ok-array-in-Size-clause-cells g t c = stays c.args.parts.now.items _
