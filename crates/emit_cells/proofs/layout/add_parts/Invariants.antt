use Rattle.std.proofs.Common.{List, map, take}
use Rattle.language.specs.Core.{Part}
use Rattle.flow.specs.Shapes.{kinds_of_function}
use Rattle.flow.specs.View.{parts_view}
use Rattle.code_rules.specs.Room.{Each, PartRoom}
use Rattle.flow.specs.Cells.{parts_anchors}
use Rattle.emit_cells.specs.Chunk.{Added, Inside, IsPassed}
use Rattle.emit_cells.specs.Marks.{MarksGrow}
use Rattle.emit_cells.proofs.layout.add_parts.Given as goal

abbrev pub invariant-loop-at : goal.invariant-loop-at
invariant-loop-at g l =
    ((all : List Part) → IsPassed l.standing.inputs all l.passed → Each (PartRoom l.standing.inputs) (parts_view l.parts.items) → Inside all (parts_view l.parts.items)
    → Added (map kinds_of_function l.functions.items) l.standing.inputs all l.standing.at l.standing.priority (take l.at (parts_view l.parts.items)) l.fn.entries.items l.entries.items)
    × MarksGrow l.fn.entries.items l.entries.items (parts_anchors l.parts.items)
