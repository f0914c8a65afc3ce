use Rattle.std.proofs.Common.{ap, ◌∙◌, arith}
use Rattle.syntax_trees.specs.declared.tree.ExprKind.{ExprKind}
use Rattle.syntax_trees.proofs.tree.ExprKind.TheLaws as measure
use Rattle.syntax_trees.specs.View.{form_view}
use Rattle.constant_fold.specs.Made.{settled, with_folded_parts}
use Rattle.constant_fold.proofs.Views.{by_parts, call_parts, chain_parts}
use Rattle.constant_fold.proofs.expression.+folded.Goals as goal

pub form-returns : goal.form-returns
form-returns g t c =
    c.put.ensures
    ∙ c.in_ok-found.ensures
    ∙ ap settled (c.in_ok-new.ensures ∙ ap (λ (k : ExprKind g.row.A.Denot). with_folded_parts (form_view k)) c.replace-old.ensures.value)
    ∙ by_parts (form_view c.args.kind.now)

pub form-parts-requires : goal.form-parts-requires
form-parts-requires g t c =
    let same = ap (measure.the_size g.row.A g.A.Allocator g.A.laws) c.replace-old.ensures.value in
    λ ks within. (omega (arith, c.decreases, same), within)

pub parts-returns-in_ok-each-in-Call : goal.parts-returns-in_ok-each-in-Call
parts-returns-in_ok-each-in-Call g t c = call_parts c.args.kind c.in-Call.name c.in-Call.arguments c.each.new.exprs c.in-Call.is c.in_ok-each-in-Call.ensures

pub parts-returns-in_ok-each-in-Chain : goal.parts-returns-in_ok-each-in-Chain
parts-returns-in_ok-each-in-Chain g t c = chain_parts c.args.kind c.in-Chain.operators c.in-Chain.operands c.each-in-Chain.new.exprs c.in-Chain.is c.in_ok-each-in-Chain.ensures
