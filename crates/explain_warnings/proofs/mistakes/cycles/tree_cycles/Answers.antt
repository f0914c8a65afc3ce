use Rattle.std.proofs.Common.{◌≤◌, [], length, sym, subst, arith}
use Rattle.syntax_trees.specs.View.{tree_of}
use Rattle.explain_warnings.specs.Cycles.{tree_plain}
use Rattle.explain_warnings.proofs.Cycling.{items_within, parts_within}
use Rattle.explain_warnings.proofs.mistakes.cycles.tree_cycles.Goals as goal

pub cycles-requires : goal.cycles-requires
cycles-requires g c =
    let tree = tree_of {A = g.row.A.Denot} c.args.script.now in
    subst (λ xs. length xs ≤ 64) (sym c.as_slice.ensures.value)
    (items_within {A = g.row.A.Denot} c.in_ok-before.before.items (tree_plain [] tree) c.in_ok-before.ensures (parts_within [] tree (omega arith)))
