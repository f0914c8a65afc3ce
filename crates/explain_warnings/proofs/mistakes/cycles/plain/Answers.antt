use Rattle.std.proofs.Common.{[], map, arith}
use Rattle.std.proofs.lemmas.Grind.{common_steps}
use Rattle.syntax_trees.specs.View.{statement_view}
use Rattle.language.specs.Tree.{statements_of}
use Rattle.explain_warnings.specs.Cycles.{plain}
use Rattle.explain_warnings.specs.View.{statements_in}
use Rattle.explain_warnings.proofs.Cycling.{plain_more, plain_all}
use Rattle.explain_warnings.proofs.mistakes.cycles.plain.Goals as goal

pub loop-stmt-preserved : goal.loop-stmt-preserved
loop-stmt-preserved g c =
    plain_more (statement_view {A = g.row.A.Denot}) (plain [] (statements_of (map (statement_view {A = g.row.A.Denot}) c.args.statements.now.items)))
    (statements_in c.loop-stmt.before.items) (statements_in c.keep.new.before.items) c.args.statements.now.items c.loop-stmt.stmt-index c.stmt-item.result
    c.loop-stmt.invariant (grind (arith, common_steps)) (grind (arith, common_steps)) c.in_ok-keep.ensures

pub returns : goal.returns
returns g c =
    plain_all (statement_view {A = g.row.A.Denot}) (plain [] (statements_of (map (statement_view {A = g.row.A.Denot}) c.args.statements.now.items)))
    (statements_in c.loop-stmt.before.items) c.args.statements.now.items c.loop-stmt.stmt-index c.loop-stmt.invariant (grind (arith, common_steps))
