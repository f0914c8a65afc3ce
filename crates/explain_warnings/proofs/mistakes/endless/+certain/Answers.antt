use Rattle.std.proofs.Common.{rules, ◌++◌, ◌≤◌, List, map, refl, ap, sym, ◌∙◌, arith}
use Rattle.std.proofs.lemmas.Grind.{common_steps}
use Rattle.std.specs.List.{sum_by}
use Rattle.syntax_trees.specs.View.{statement_view}
use Rattle.language.specs.Numbered.{statement_size}
use Rattle.language.specs.Tree.{Statement, statements_of}
use Rattle.syntax_trees.proofs.Views.{size_of_element, block-size}
use Rattle.language.proofs.Walks.{walked_more, walked_all}
use Rattle.std.proofs.lemmas.Result.{on_ok_weaker}
use Rattle.explain_warnings.specs.Endless.{certain, all_certain}
use Rattle.explain_warnings.proofs.Views.{view-Stmt}
use Rattle.explain_warnings.proofs.mistakes.endless.+certain.Goals as goal

pub each_certain-certain-requires : goal.each_certain-certain-requires
each_certain-certain-requires g t c =
    let small : statement_size (statement_view {A = g.row.A.Denot} c.stmt-item.result) ≤ sum_by statement_size (map (statement_view {A = g.row.A.Denot}) c.args.statements.now.items) =
    size_of_element (statement_view {A = g.row.A.Denot}) statement_size c.args.statements.now.items c.loop-stmt.stmt-index c.stmt-item.result (grind (arith, common_steps)) (grind (arith, common_steps)) in
    search rules

pub block_certain-each_certain-requires : goal.block_certain-each_certain-requires
block_certain-each_certain-requires g t c κs within =
    let e = block-size g.row.A.Denot c.args.body.now in
    search rules

pub each_certain-loop-stmt-preserved : goal.each_certain-loop-stmt-preserved
each_certain-loop-stmt-preserved g t c =
    walked_more (statement_view {A = g.row.A.Denot}) certain (λ (ss : List Statement). all_certain (statements_of ss)) (λ y ys. refl)
    (c.args.name_uses.now.items ++ all_certain (statements_of (map (statement_view {A = g.row.A.Denot}) c.args.statements.now.items)))
    c.loop-stmt.name_uses.items c.certain.new.name_uses.items c.args.statements.now.items c.loop-stmt.stmt-index c.stmt-item.result
    c.loop-stmt.invariant (grind (arith, common_steps)) (grind (arith, common_steps)) c.in_ok-certain.ensures

pub each_certain-returns : goal.each_certain-returns
each_certain-returns g t c =
    walked_all (statement_view {A = g.row.A.Denot}) (λ (ss : List Statement). all_certain (statements_of ss)) refl
    (c.args.name_uses.now.items ++ all_certain (statements_of (map (statement_view {A = g.row.A.Denot}) c.args.statements.now.items)))
    c.loop-stmt.name_uses.items c.args.statements.now.items c.loop-stmt.stmt-index c.loop-stmt.invariant (grind (arith, common_steps))

pub certain-returns : goal.certain-returns
certain-returns g t c =
    on_ok_weaker c.command_certain.result (λ adds. adds ∙ ap (λ (x : Statement). c.args.name_uses.now.items ++ certain x) (sym (view-Stmt g.row.A.Denot c.args.stmt.now))) c.command_certain.ensures
