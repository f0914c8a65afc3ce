use Rattle.std.proofs.Common.{rules, ◌≡◌, ◌≤◌, ◌++◌, ◌∷◌, [], map, ap, ap₂, sym, ◌∙◌, arith}
use Rattle.std.proofs.lemmas.Grind.{common_steps}
use Rattle.std.proofs.lemmas.Result.{IfOk-weaker}
use Rattle.std.specs.List.{sum_by}
use Rattle.syntax_trees.specs.declared.tree.ExprKind.{ExprKind}
use Rattle.language.specs.Tree.{call, chain, expressions_of}
use Rattle.syntax_trees.specs.View.{word_of, expression_view, form_view}
use Rattle.language.specs.Numbered.{expression_size, form_size}
use Rattle.syntax_trees.proofs.Views.{view-Call, view-Chain, size_of_element}
use Rattle.syntax_trees.proofs.Numbering.{copied_more, viewed_all, size-Call, size-Chain}
use Rattle.syntax_trees.proofs.copy.+copy.Goals as goal

pub copy_exprs-loop-expr-preserved : goal.copy_exprs-loop-expr-preserved
copy_exprs-loop-expr-preserved g t c =
    let more = copied_more (expression_view {A = g.row.A.Denot}) (expression_view {A = g.row.B.Denot}) c.args.exprs.now.items c.loop-expr.copies.items c.loop-expr.expr-index c.expr-item.result c.in_ok-copy_expr.field-0 c.loop-expr.invariant (grind (arith, common_steps)) (grind (arith, common_steps)) c.in_ok-copy_expr.ensures in
    let after : c.push.new.self.items ≡ c.loop-expr.copies.items ++ c.in_ok-copy_expr.field-0 ∷ [] = grind (arith, common_steps) in
    ap (map expression_view) after ∙ more

pub copy_exprs-returns : goal.copy_exprs-returns
copy_exprs-returns g t c = c.loop-expr.invariant ∙ viewed_all (expression_view {A = g.row.A.Denot}) c.args.exprs.now.items c.loop-expr.expr-index (grind (arith, common_steps))

pub copy_exprs-copy_expr-requires : goal.copy_exprs-copy_expr-requires
copy_exprs-copy_expr-requires g t c κs within =
    let small : expression_size (expression_view {A = g.row.A.Denot} c.expr-item.result) ≤ sum_by expression_size (map (expression_view {A = g.row.A.Denot}) c.args.exprs.now.items) =
    size_of_element (expression_view {A = g.row.A.Denot}) expression_size c.args.exprs.now.items c.loop-expr.expr-index c.expr-item.result (grind (arith, common_steps)) (grind (arith, common_steps)) in
    search rules

pub copy_kind-copy_exprs-requires : goal.copy_kind-copy_exprs-requires
copy_kind-copy_exprs-requires g t c κs within =
    let size = ap (λ k. form_size (form_view {A = g.row.A.Denot} k)) c.in-Call.is ∙ size-Call g.row.A.Denot c.in-Call.name c.in-Call.arguments in
    search rules

pub copy_kind-copy_exprs-requires-in-Chain : goal.copy_kind-copy_exprs-requires-in-Chain
copy_kind-copy_exprs-requires-in-Chain g t c κs within =
    let size = ap (λ k. form_size (form_view {A = g.row.A.Denot} k)) c.in-Chain.is ∙ size-Chain g.row.A.Denot c.in-Chain.operators c.in-Chain.operands in
    search rules

pub copy_kind-returns-in_ok-arguments-in-Call : goal.copy_kind-returns-in_ok-arguments-in-Call
copy_kind-returns-in_ok-arguments-in-Call g t c =
    let A = g.row.A.Denot in
    let B = g.row.B.Denot in
    let told : ExprKind B → Type 0 = λ k. form_view k ≡ call (word_of {A = A} c.deref-in-Call.result.now) (expressions_of (map (expression_view {A = B}) c.in_ok-arguments-in-Call.arguments.items)) in
    let wanted : ExprKind B → Type 0 = λ k. form_view k ≡ form_view {A = A} c.args.kind.now in
    IfOk-weaker c.copy_application.result told wanted
    (λ k is. is ∙ ap₂ call (ap (word_of {A = A}) c.deref-in-Call.ensures) (ap expressions_of c.in_ok-arguments-in-Call.ensures)
    ∙ sym (ap (form_view {A = A}) c.in-Call.is ∙ view-Call c.in-Call.name c.in-Call.arguments)) c.copy_application.ensures

pub copy_kind-returns-in_ok-operands-in-Chain : goal.copy_kind-returns-in_ok-operands-in-Chain
copy_kind-returns-in_ok-operands-in-Chain g t c =
    let A = g.row.A.Denot in
    let B = g.row.B.Denot in
    let told : ExprKind B → Type 0 = λ k. form_view k ≡ chain c.as_slice-in-Chain.result.now (expressions_of (map (expression_view {A = B}) c.in_ok-operands-in-Chain.operands.items)) in
    let wanted : ExprKind B → Type 0 = λ k. form_view k ≡ form_view {A = A} c.args.kind.now in
    IfOk-weaker c.copy_chain.result told wanted
    (λ k is. is ∙ ap₂ chain c.as_slice-in-Chain.ensures.value (ap expressions_of c.in_ok-operands-in-Chain.ensures)
    ∙ sym (ap (form_view {A = A}) c.in-Chain.is ∙ view-Chain c.in-Chain.operators c.in-Chain.operands)) c.copy_chain.ensures
