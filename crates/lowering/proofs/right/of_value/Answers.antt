use Rattle.std.proofs.Common.{◌≡◌, map, ap, sym, ◌∙◌}
use Rattle.std.specs.Prelude.{pos}
use Rattle.std.proofs.lemmas.Result.{IfOk-weaker}
use Rattle.syntax_trees.specs.declared.tree.Expr.{out-Expr}
use Rattle.syntax_trees.specs.View.{word_of, expression_view, form_view}
use Rattle.language.specs.Tree.{Node, expressions_of, value}
use Rattle.language.specs.Resolved as rules
use Rattle.types.specs.Typed.{table_of, callee_name}
use Rattle.flow.specs.declared.statement.Action.{Action}
use Rattle.flow.specs.View.{action_view, name_view, names_view}
use Rattle.syntax_trees.proofs.Views.{view-Call}
use Rattle.lowering.proofs.Views.{view_expr}
use Rattle.flow.specs.Cells.{AreAmong, action_anchors}
use Rattle.flow.proofs.Growing.{among_as, among_equal, among_then}
use Rattle.lowering.specs.Nodes.{all_nodes, expression_nodes, form_nodes}
use Rattle.lowering.proofs.Anchors.{form_among, node_among}
use Rattle.lowering.proofs.Actions.{value_called}
use Rattle.lowering.proofs.right.of_value.Goals as goal

pub returns-in_ok-outputs-in-Function-clause-core : goal.returns-in_ok-outputs-in-Function-clause-core
returns-in_ok-outputs-in-Function-clause-core g c =
    let A = g.row.A.Denot in
    let t = table_of c.args.typed.now in
    let e = out-Expr A c.args.expr.now in
    let nd : Node = record { number = e.number; first = e.first; to = e.to } in
    let w = word_of {A = A} c.in-Call.name.value in
    let es = expressions_of (map (expression_view {A = A}) c.in-Call.arguments.items) in
    let x = name_view c.args.target in
    let is = value_called t x c.args.target.shape (expression_view {A = A} c.args.expr.now) nd (form_view e.kind) w es c.in-Function.function
    (view_expr A c.args.expr.now) (ap form_view c.in-Call.is ∙ view-Call c.in-Call.name c.in-Call.arguments) (ap (λ n. t.callee_of (word_of {A = A} n).number) (sym c.deref.ensures) ∙ sym c.callee.ensures ∙ ap callee_name c.in-Function.is) in
    let told : Action A → Type 0 = λ a. action_view a ≡ rules.composite_call (pos 0) (word_of {A = A} c.deref-in-Function.result.now) c.in-Function.function (rules.arguments_of t es) (names_view c.in_ok-outputs-in-Function.outputs.items) in
    let wanted : Action A → Type 0 = λ a. action_view a ≡ rules.right_of t x c.args.target.shape (value (expression_view {A = A} c.args.expr.now)) in
    IfOk-weaker c.call_alone.result told wanted
    (λ a so. so
    ∙ ap (λ n. rules.composite_call (pos 0) (word_of {A = A} n) c.in-Function.function (rules.arguments_of t es) (names_view c.in_ok-outputs-in-Function.outputs.items)) c.deref-in-Function.ensures
    ∙ ap (λ os. rules.composite_call (pos 0) w c.in-Function.function (rules.arguments_of t es) (names_view os)) c.in_ok-outputs-in-Function.ensures ∙ sym is) c.call_alone.ensures.core

pub returns-in_ok-outputs-in-Function-clause-cells : goal.returns-in_ok-outputs-in-Function-clause-cells
returns-in_ok-outputs-in-Function-clause-cells g c =
    let A = g.row.A.Denot in
    let told : Action A → Type 0 = λ a. AreAmong (action_anchors a) (all_nodes (map (expression_view {A = A}) c.in-Call.arguments.items)) in
    let wanted : Action A → Type 0 = λ a. AreAmong (action_anchors a) (expression_nodes (expression_view {A = A} c.args.expr.now)) in
    let inside = among_then (among_equal (sym (ap form_nodes (ap form_view c.in-Call.is ∙ view-Call c.in-Call.name c.in-Call.arguments)))) (form_among A c.args.expr.now) in
    IfOk-weaker c.call_alone.result told wanted (λ a found. among_then found inside) c.call_alone.ensures.cells

pub returns-in-Array-clause-cells : goal.returns-in-Array-clause-cells
returns-in-Array-clause-cells g c = IfOk-weaker c.filled.result _ _ (λ a is. among_as is (node_among g.row.A.Denot c.args.expr.now)) c.filled.ensures.cells
