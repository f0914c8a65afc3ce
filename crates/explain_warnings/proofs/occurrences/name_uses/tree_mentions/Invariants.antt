use Rattle.std.proofs.Common.{◌≡◌, ◌++◌, map, drop}
use Rattle.syntax_trees.specs.View.{part_of}
use Rattle.explain_warnings.specs.Mentions.{tree_mentions}
use Rattle.explain_warnings.proofs.occurrences.name_uses.tree_mentions.Given as goal

abbrev pub invariant-loop-item : goal.invariant-loop-item
invariant-loop-item g l =
    tree_mentions (map part_of l.script.items.items)
    ≡ l.name_uses.items ++ tree_mentions (map part_of (drop l.item-index l.script.items.items))
