use Rattle.std.proofs.Common.{◌++◌, [], map, ap, ◌∙◌, arith}
use Rattle.std.proofs.lemmas.Grind.{common_steps}
use Rattle.syntax_trees.specs.View.{statement_view}
use Rattle.language.specs.Tree.{statements_of}
use Rattle.explain_warnings.specs.Repeats.{again, repeats}
use Rattle.explain_warnings.specs.View.{statements_in}
use Rattle.explain_warnings.proofs.Repeated.{repeats_more, repeats_all}
use Rattle.explain_warnings.proofs.mistakes.repeats.list_repeats.Goals as goal

pub loop-stmt-preserved : goal.loop-stmt-preserved
loop-stmt-preserved g c =
    repeats_more (statement_view {A = g.row.A.Denot})
    (c.args.name_uses.now.items ++ repeats [] (statements_of (map (statement_view {A = g.row.A.Denot}) c.args.statements.now.items)))
    c.loop-stmt.name_uses.items c.again.new.name_uses.items (statements_in c.loop-stmt.before.items) (statements_in c.keep.new.before.items)
    c.args.statements.now.items c.loop-stmt.stmt-index c.stmt-item.result c.loop-stmt.invariant (grind (arith, common_steps)) (grind (arith, common_steps))
    (c.in_ok-again.ensures ∙ ap (λ bs. c.loop-stmt.name_uses.items ++ again (statements_in {A = g.row.A.Denot} bs) (statement_view {A = g.row.A.Denot} c.stmt-item.result)) c.as_slice.ensures.value)
    c.in_ok-keep.ensures

pub returns : goal.returns
returns g c =
    repeats_all (statement_view {A = g.row.A.Denot})
    (c.args.name_uses.now.items ++ repeats [] (statements_of (map (statement_view {A = g.row.A.Denot}) c.args.statements.now.items)))
    c.loop-stmt.name_uses.items (statements_in c.loop-stmt.before.items) c.args.statements.now.items c.loop-stmt.stmt-index c.loop-stmt.invariant
    (grind (arith, common_steps))
