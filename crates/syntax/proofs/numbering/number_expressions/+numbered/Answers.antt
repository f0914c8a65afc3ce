use Rattle.std.proofs.Common.{rules, map, ap, ◌∙◌, Box}
use Rattle.syntax_trees.specs.declared.tree.Name.{Name}
use Rattle.syntax_trees.specs.View.{word_of, expression_view, form_view}
use Rattle.language.specs.Numbered.{expression_size, form_size, numbered_each, numbered_word, numbered_expression, numbered_form}
use Rattle.syntax_trees.proofs.Numbering.{size-Call, size-Chain}
use Rattle.syntax.proofs.NumberViews.{call_numbered, chain_numbered}
use Rattle.syntax.proofs.numbering.number_expressions.+numbered.Goals as goal

pub form-expressions-requires : goal.form-expressions-requires
form-expressions-requires g t c κs within =
    let size = ap (λ k. form_size (form_view {A = g.row.A.Denot} k)) c.in-Call.is ∙ size-Call g.row.A.Denot c.in-Call.function c.in-Call.arguments in
    search rules

pub form-expressions-requires-in-Chain : goal.form-expressions-requires-in-Chain
form-expressions-requires-in-Chain g t c κs within =
    let size = ap (λ k. form_size (form_view {A = g.row.A.Denot} k)) c.in-Chain.is ∙ size-Chain g.row.A.Denot c.in-Chain._operators c.in-Chain.operands in
    search rules

pub form-returns-in-Call-clause-numbered : goal.form-returns-in-Call-clause-numbered
form-returns-in-Call-clause-numbered g t c =
    let A = g.row.A.Denot in
    call_numbered A c.args.from c.args.kind.now c.in-Call.function _ c.in-Call.arguments c.expressions.new.exprs c.in-Call.is
    (c.name-next-in-Call.ensures.numbered
    ∙ ap (λ w. numbered_word c.args.from (word_of {A = A} w)) (c.deref_mut-in-Call.ensures.value ∙ ap (λ (b : Box (Name A) A). b.value) c.in-Call.function-is))
    (c.expressions.ensures.numbered
    ∙ ap (λ v. numbered_each numbered_expression expression_size c.name-next-in-Call.result (map (expression_view {A = A}) v.items)) c.in-Call.arguments-is
    ∙ ap (λ n. numbered_each numbered_expression expression_size n (map (expression_view {A = A}) c.in-Call.arguments.items)) c.name-next-in-Call.ensures.next)

pub form-returns-in-Call-clause-next : goal.form-returns-in-Call-clause-next
form-returns-in-Call-clause-next g t c =
    let size = ap (λ k. form_size (form_view {A = g.row.A.Denot} k)) c.in-Call.is ∙ size-Call g.row.A.Denot c.in-Call.function c.in-Call.arguments in
    search rules

pub form-returns-in-Chain-clause-numbered : goal.form-returns-in-Chain-clause-numbered
form-returns-in-Chain-clause-numbered g t c =
    let same = chain_numbered g.row.A.Denot c.args.from c.args.kind.now c.in-Chain._operators c.in-Chain.operands c.expressions-in-Chain.new.exprs c.in-Chain.is (search rules) in
    search rules

pub form-returns-in-Chain-clause-next : goal.form-returns-in-Chain-clause-next
form-returns-in-Chain-clause-next g t c =
    let size = ap (λ k. form_size (form_view {A = g.row.A.Denot} k)) c.in-Chain.is ∙ size-Chain g.row.A.Denot c.in-Chain._operators c.in-Chain.operands in
    search rules
