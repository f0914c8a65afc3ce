use Rattle.std.proofs.Common.{◌≡◌, ◌++◌, map, drop}
use Rattle.syntax_trees.specs.View.{part_of}
use Rattle.explain_names.specs.Mentions.{script_mentions}
use Rattle.explain_names.proofs.occurrences.script_mentions.Given as goal

abbrev pub invariant-loop-item : goal.invariant-loop-item
invariant-loop-item g l =
    script_mentions (map part_of l.script.items.items)
    ≡ l.occurrences.items ++ script_mentions (map part_of (drop l.item-index l.script.items.items))
