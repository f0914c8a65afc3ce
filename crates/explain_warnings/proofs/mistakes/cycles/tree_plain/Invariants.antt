use Rattle.std.proofs.Common.{◌≡◌, [], map, drop}
use Rattle.syntax_trees.specs.View.{part_of}
use Rattle.explain_warnings.specs.Cycles.{tree_plain}
use Rattle.explain_warnings.specs.View.{statements_in}
use Rattle.explain_warnings.proofs.mistakes.cycles.tree_plain.Given as goal

abbrev pub invariant-loop-item : goal.invariant-loop-item
invariant-loop-item g l =
    tree_plain [] (map part_of l.script.items.items)
    ≡ tree_plain (statements_in l.before.items) (map part_of (drop l.item-index l.script.items.items))
