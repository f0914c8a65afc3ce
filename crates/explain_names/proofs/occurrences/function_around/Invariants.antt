use Rattle.std.proofs.Common.{◌≡◌, map, drop}
use Rattle.syntax_trees.specs.View.{part_of}
use Rattle.explain_names.specs.Mentions.{function_around}
use Rattle.explain_names.proofs.occurrences.function_around.Given as goal

abbrev pub invariant-loop-item : goal.invariant-loop-item
invariant-loop-item g l =
    function_around l.at (map part_of l.script.items.items)
    ≡ function_around l.at (map part_of (drop l.item-index l.script.items.items))
