use Rattle.std.proofs.Common.{◌≡◌, ◌++◌, map, drop}
use Rattle.syntax_trees.specs.View.{part_of}
use Rattle.language.specs.Resolved.{functions_of}
use Rattle.types.specs.Typed.{table_of}
use Rattle.flow.specs.View.{function_view}
use Rattle.flow.specs.Shapes.{functions_declared, kinds_of_function}
use Rattle.language.specs.Scopes.{signatures}
use Rattle.std.specs.List.{flat_map}
use Rattle.flow.specs.Cells.{AnchorsGrow, function_anchors}
use Rattle.lowering.specs.Nodes.{function_nodes}
use Rattle.flow.specs.Listed.{functions_shown}
use Rattle.lowering.specs.Listed.{composites_shown}
use Rattle.lowering.specs.Shapes.{flagged, function_declarations, kinds_of_signature}
use Rattle.lowering.proofs.script.add_functions.Given as goal

abbrev pub invariant-loop-item : goal.invariant-loop-item
invariant-loop-item g l =
    (map function_view l.fn.found.items ++ functions_of (table_of l.typed) (map part_of l.items.items)
    ≡ map function_view l.found.items ++ functions_of (table_of l.typed) (map part_of (drop l.item-index l.items.items)))
    × (functions_declared l.fn.found.items ++ flagged (function_declarations (map part_of l.items.items))
    ≡ functions_declared l.found.items ++ flagged (function_declarations (map part_of (drop l.item-index l.items.items))))
    × (map kinds_of_function l.fn.found.items ++ map kinds_of_signature (signatures (map part_of l.items.items))
    ≡ map kinds_of_function l.found.items ++ map kinds_of_signature (signatures (map part_of (drop l.item-index l.items.items))))
    × (functions_shown l.fn.found.items ++ composites_shown (map part_of l.items.items)
    ≡ functions_shown l.found.items ++ composites_shown (map part_of (drop l.item-index l.items.items)))
    × AnchorsGrow (flat_map function_anchors l.fn.found.items) (flat_map function_anchors l.found.items) (function_nodes (map part_of l.items.items))
