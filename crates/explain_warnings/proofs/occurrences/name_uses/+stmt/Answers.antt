use Rattle.std.proofs.Common.{rules, ◌++◌, ◌≤◌, List, map, refl, ap, sym, ◌∙◌, arith}
use Rattle.std.proofs.lemmas.Grind.{common_steps}
use Rattle.std.specs.List.{sum_by}
use Rattle.syntax_trees.specs.View.{statement_view}
use Rattle.language.specs.Numbered.{statement_size}
use Rattle.language.specs.Tree.{Statement, statements_of}
use Rattle.syntax_trees.proofs.Views.{size_of_element, block-size}
use Rattle.language.proofs.Walks.{walked_more, walked_all}
use Rattle.std.proofs.lemmas.Result.{on_ok_weaker}
use Rattle.explain_warnings.specs.Mentions.{mentions_in, all_mentions}
use Rattle.explain_warnings.proofs.Views.{view-Stmt}
use Rattle.explain_warnings.proofs.occurrences.name_uses.+stmt.Goals as goal

pub each-statement-requires : goal.each-statement-requires
each-statement-requires g t c =
    let small : statement_size (statement_view {A = g.row.A.Denot} c.stmt-item.result) ≤ sum_by statement_size (map (statement_view {A = g.row.A.Denot}) c.args.statements.now.items) =
    size_of_element (statement_view {A = g.row.A.Denot}) statement_size c.args.statements.now.items c.loop-stmt.stmt-index c.stmt-item.result (grind (arith, common_steps)) (grind (arith, common_steps)) in
    search rules

pub block-each-requires : goal.block-each-requires
block-each-requires g t c κs within =
    let e = block-size g.row.A.Denot c.args.body.now in
    search rules

pub each-loop-stmt-preserved : goal.each-loop-stmt-preserved
each-loop-stmt-preserved g t c =
    walked_more (statement_view {A = g.row.A.Denot}) mentions_in (λ (ss : List Statement). all_mentions (statements_of ss)) (λ y ys. refl)
    (c.args.name_uses.now.items ++ all_mentions (statements_of (map (statement_view {A = g.row.A.Denot}) c.args.statements.now.items)))
    c.loop-stmt.name_uses.items c.statement.new.name_uses.items c.args.statements.now.items c.loop-stmt.stmt-index c.stmt-item.result
    c.loop-stmt.invariant (grind (arith, common_steps)) (grind (arith, common_steps)) c.in_ok-statement.ensures

pub each-returns : goal.each-returns
each-returns g t c =
    walked_all (statement_view {A = g.row.A.Denot}) (λ (ss : List Statement). all_mentions (statements_of ss)) refl
    (c.args.name_uses.now.items ++ all_mentions (statements_of (map (statement_view {A = g.row.A.Denot}) c.args.statements.now.items)))
    c.loop-stmt.name_uses.items c.args.statements.now.items c.loop-stmt.stmt-index c.loop-stmt.invariant (grind (arith, common_steps))

pub statement-returns : goal.statement-returns
statement-returns g t c =
    on_ok_weaker c.command.result (λ adds. adds ∙ ap (λ (x : Statement). c.args.name_uses.now.items ++ mentions_in x) (sym (view-Stmt g.row.A.Denot c.args.stmt.now))) c.command.ensures
