use Rattle.std.proofs.Common.{◌≡◌, map, drop}
use Rattle.syntax_trees.specs.View.{part_of}
use Rattle.explain_names.specs.Lookups.{function_named}
use Rattle.explain_names.proofs.lookup.function_named.Given as goal

abbrev pub invariant-loop-item : goal.invariant-loop-item
invariant-loop-item g l =
    function_named l.name (map part_of l.script.items.items)
    ≡ function_named l.name (map part_of (drop l.item-index l.script.items.items))
