use Rattle.std.proofs.Common.{◌≤◌, [], length, map, sym, subst, arith}
use Rattle.syntax_trees.specs.View.{statement_view}
use Rattle.language.specs.Tree.{statements_of}
use Rattle.explain_warnings.specs.Cycles.{plain}
use Rattle.explain_warnings.proofs.Cycling.{items_within, plain_within}
use Rattle.explain_warnings.proofs.mistakes.cycles.list_cycles.Goals as goal

pub cycles-requires : goal.cycles-requires
cycles-requires g c =
    let ss = statements_of (map (statement_view {A = g.row.A.Denot}) c.args.statements.now.items) in
    subst (λ xs. length xs ≤ 64) (sym c.as_slice.ensures.value)
    (items_within {A = g.row.A.Denot} c.in_ok-before.before.items (plain [] ss) c.in_ok-before.ensures (plain_within [] ss (omega arith)))
