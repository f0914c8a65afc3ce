use Rattle.std.proofs.Common.{◌≡◌, ◌++◌, map, drop}
use Rattle.syntax_trees.specs.View.{part_of}
use Rattle.types.specs.Typed.{table_of}
use Rattle.flow.specs.View.{statements_view}
use Rattle.lowering.specs.Shapes.{declared_by, flagged, own_declarations}
use Rattle.lowering.specs.Listed.{listed_by, own_listed}
use Rattle.lowering.specs.Nodes.{StatementsStand, own_nodes}
use Rattle.lowering.specs.View.{own_statements}
use Rattle.lowering.proofs.script.add_statements.Given as goal

abbrev pub invariant-loop-item : goal.invariant-loop-item
invariant-loop-item g l =
    (statements_view l.fn.found.items ++ own_statements (table_of l.typed) (map part_of l.items.items)
    ≡ statements_view l.found.items ++ own_statements (table_of l.typed) (map part_of (drop l.item-index l.items.items)))
    × (declared_by l.fn.found.items ++ flagged (own_declarations (map part_of l.items.items))
    ≡ declared_by l.found.items ++ flagged (own_declarations (map part_of (drop l.item-index l.items.items))))
    × (listed_by l.fn.found.items ++ own_listed (map part_of l.items.items)
    ≡ listed_by l.found.items ++ own_listed (map part_of (drop l.item-index l.items.items)))
    × StatementsStand l.fn.found.items l.found.items (own_nodes (map part_of l.items.items))
