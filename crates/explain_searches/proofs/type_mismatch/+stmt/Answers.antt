use Rattle.std.proofs.Common.{rules, ◌≤◌, map, arith}
use Rattle.std.proofs.lemmas.Grind.{common_steps}
use Rattle.std.specs.List.{sum_by}
use Rattle.syntax_trees.specs.View.{statement_view}
use Rattle.language.specs.Numbered.{statement_size}
use Rattle.syntax_trees.proofs.Views.{size_of_element, block-size}
use Rattle.explain_searches.proofs.type_mismatch.+stmt.Goals as goal

pub in_each-in_statement-requires : goal.in_each-in_statement-requires
in_each-in_statement-requires g t c =
    let small : statement_size (statement_view {A = g.row.A.Denot} c.stmt-item.result) ≤ sum_by statement_size (map (statement_view {A = g.row.A.Denot}) c.args.statements.now.items) =
    size_of_element (statement_view {A = g.row.A.Denot}) statement_size c.args.statements.now.items c.loop-stmt.stmt-index c.stmt-item.result (grind (arith, common_steps)) (grind (arith, common_steps)) in
    search rules

pub in_block-in_each-requires : goal.in_block-in_each-requires
in_block-in_each-requires g t c =
    let e = block-size g.row.A.Denot c.args.block.now in
    search rules
