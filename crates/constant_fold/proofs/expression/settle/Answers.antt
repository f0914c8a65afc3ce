use Rattle.std.proofs.Common.{map, List, ap, ◌∙◌, ℕ}
use Rattle.syntax_trees.specs.declared.tree.Expr.{Expr}
use Rattle.syntax_trees.specs.declared.tree.Name.{Name}
use Rattle.language.specs.declared.tree.Operator.{Operator}
use Rattle.language.specs.Resolved.{chain_operation}
use Rattle.language.specs.Tree.{expressions_of}
use Rattle.syntax_trees.specs.View.{form_view, expression_view}
use Rattle.constant_fold.specs.Folded.{called, called_operation, collapsed, scalars_of}
use Rattle.constant_fold.proofs.Views.{call_settled, chain_settled}
use Rattle.constant_fold.proofs.expression.settle.Goals as goal

pub returns-in_ok-found-in-Call : goal.returns-in_ok-found-in-Call
returns-in_ok-found-in-Call g c =
    let A = g.row.A.Denot in
    let k = c.args.kind.now in
    c.in_ok-found-in-Call.ensures (form_view {A = A} k)
    ∙ ap (λ (ws : List ℕ). called (called_operation ws) (scalars_of (expressions_of (map (expression_view {A = A}) c.as_slice-in-Call.result.now))) (form_view {A = A} k)) c.as_slice.ensures.value
    ∙ ap (λ (n : Name A). called (called_operation n.text.items) (scalars_of (expressions_of (map (expression_view {A = A}) c.as_slice-in-Call.result.now))) (form_view {A = A} k)) c.deref.ensures
    ∙ ap (λ (es : List (Expr A)). called (called_operation c.in-Call.name.value.text.items) (scalars_of (expressions_of (map (expression_view {A = A}) es))) (form_view {A = A} k)) c.as_slice-in-Call.ensures.value
    ∙ call_settled k c.in-Call.name c.in-Call.arguments c.in-Call.is

pub returns-in_ok-found-in-Chain : goal.returns-in_ok-found-in-Chain
returns-in_ok-found-in-Chain g c =
    let A = g.row.A.Denot in
    let k = c.args.kind.now in
    c.in_ok-found-in-Chain.ensures (form_view {A = A} k)
    ∙ ap (λ (os : List Operator). collapsed (chain_operation os) (scalars_of (expressions_of (map (expression_view {A = A}) c.as_slice-in-Chain-2.result.now))) (form_view {A = A} k)) c.as_slice-in-Chain.ensures.value
    ∙ ap (λ (es : List (Expr A)). collapsed (chain_operation c.in-Chain.operators.items) (scalars_of (expressions_of (map (expression_view {A = A}) es))) (form_view {A = A} k)) c.as_slice-in-Chain-2.ensures.value
    ∙ chain_settled k c.in-Chain.operators c.in-Chain.operands c.in-Chain.is
