use Rattle.std.proofs.Common.{rules, ◌≤◌, List, map, sym, ◌∙◌, refl, arith}
use Rattle.std.proofs.lemmas.Grind.{common_steps}
use Rattle.std.specs.List.{sum_by}
use Rattle.syntax_trees.specs.View.{statement_view}
use Rattle.language.specs.Numbered.{statement_size}
use Rattle.language.specs.Tree.{Statement, statements_of}
use Rattle.syntax_trees.proofs.Views.{size_of_element, block-size}
use Rattle.explain_names.specs.Ways.{assigns_in, any_assigns}
use Rattle.explain_names.proofs.Any.{any_found, any_later, any_none}
use Rattle.explain_names.proofs.control_paths.+stmt.Goals as goal

pub in_any-in_statement-requires : goal.in_any-in_statement-requires
in_any-in_statement-requires g t c =
    let small : statement_size (statement_view {A = g.row.A.Denot} c.stmt-item.result) ≤ sum_by statement_size (map (statement_view {A = g.row.A.Denot}) c.args.statements.now.items) =
    size_of_element (statement_view {A = g.row.A.Denot}) statement_size c.args.statements.now.items c.loop-stmt.stmt-index c.stmt-item.result (grind (arith, common_steps)) (grind (arith, common_steps)) in
    search rules

pub in_block-in_any-requires : goal.in_block-in_any-requires
in_block-in_any-requires g t c κs within =
    let e = block-size g.row.A.Denot c.args.block.now in
    search rules

pub in_any-returns-then-in_statement : goal.in_any-returns-then-in_statement
in_any-returns-then-in_statement g t c =
    any_found (statement_view {A = g.row.A.Denot}) (assigns_in c.args.each c.args.name.now) (λ (ss : List Statement). any_assigns c.args.each c.args.name.now (statements_of ss)) (λ y ys. refl)
    (any_assigns c.args.each c.args.name.now (statements_of (map (statement_view {A = g.row.A.Denot}) c.args.statements.now.items)))
    c.args.statements.now.items c.loop-stmt.stmt-index c.stmt-item.result
    c.loop-stmt.invariant (grind (arith, common_steps)) (grind (arith, common_steps)) (sym c.in_statement.ensures ∙ c.if-in_statement.true)

pub in_any-loop-stmt-preserved : goal.in_any-loop-stmt-preserved
in_any-loop-stmt-preserved g t c =
    any_later (statement_view {A = g.row.A.Denot}) (assigns_in c.args.each c.args.name.now) (λ (ss : List Statement). any_assigns c.args.each c.args.name.now (statements_of ss)) (λ y ys. refl)
    (any_assigns c.args.each c.args.name.now (statements_of (map (statement_view {A = g.row.A.Denot}) c.args.statements.now.items)))
    c.args.statements.now.items c.loop-stmt.stmt-index c.stmt-item.result
    c.loop-stmt.invariant (grind (arith, common_steps)) (grind (arith, common_steps)) (sym c.in_statement.ensures ∙ c.if-in_statement.false)

pub in_any-returns : goal.in_any-returns
in_any-returns g t c =
    any_none (statement_view {A = g.row.A.Denot}) (λ (ss : List Statement). any_assigns c.args.each c.args.name.now (statements_of ss)) refl
    (any_assigns c.args.each c.args.name.now (statements_of (map (statement_view {A = g.row.A.Denot}) c.args.statements.now.items)))
    c.args.statements.now.items c.loop-stmt.stmt-index c.loop-stmt.invariant (grind (arith, common_steps))
