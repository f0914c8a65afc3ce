use Rattle.std.proofs.Common.{◌∷◌, [], map}
use Rattle.std.proofs.lemmas.Result.{IfOk-weaker}
use Rattle.syntax_trees.specs.View.{calling_of, expression_view}
use Rattle.flow.specs.declared.statement.Action.{Action}
use Rattle.flow.specs.Cells.{AreAmong, action_anchors}
use Rattle.flow.proofs.Anchors.{assert_anchors, print_anchors}
use Rattle.flow.proofs.Growing.{among_as, among_right, among_then}
use Rattle.lowering.specs.Nodes.{all_nodes, calling_nodes, node_anchor}
use Rattle.lowering.proofs.right.statement_call.Goals as goal

pub returns-in_ok-clone-in-Function-clause-cells : goal.returns-in_ok-clone-in-Function-clause-cells
returns-in_ok-clone-in-Function-clause-cells g c =
    let A = g.row.A.Denot in
    let nodes = all_nodes (map (expression_view {A = A}) c.args.call.now.arguments.items) in
    let told : Action A → Type 0 = λ a. AreAmong (action_anchors a) nodes in
    let wanted : Action A → Type 0 = λ a. AreAmong (action_anchors a) (calling_nodes (calling_of {A = A} c.args.call.now)) in
    IfOk-weaker c.call_alone.result told wanted (λ a found. among_then found (among_right (node_anchor (calling_of {A = A} c.args.call.now).node ∷ []) nodes)) c.call_alone.ensures.cells

pub returns-in_ok-line-in-BuiltIn-Printf-clause-cells : goal.returns-in_ok-line-in-BuiltIn-Printf-clause-cells
returns-in_ok-line-in-BuiltIn-Printf-clause-cells g c = among_as (print_anchors _ c.in_ok-line-in-BuiltIn-Printf.line) c.in_ok-line-in-BuiltIn-Printf.ensures.cells

pub returns-in_ok-check-in-BuiltIn-clause-cells : goal.returns-in_ok-check-in-BuiltIn-clause-cells
returns-in_ok-check-in-BuiltIn-clause-cells g c = among_as (assert_anchors _ c.in_ok-check-in-BuiltIn.check) c.in_ok-check-in-BuiltIn.ensures.cells
