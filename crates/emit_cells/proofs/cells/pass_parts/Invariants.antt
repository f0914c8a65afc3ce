use Rattle.std.proofs.Common.{List, take}
use Rattle.language.specs.Core.{Part}
use Rattle.flow.specs.View.{parts_view}
use Rattle.code_rules.specs.Room.{Each, PartRoom}
use Rattle.emit_cells.specs.Chunk.{Inside, Passes}
use Rattle.emit_cells.proofs.cells.pass_parts.Given as goal

abbrev pub invariant-loop-at : goal.invariant-loop-at
invariant-loop-at g l =
    (all : List Part) → Each (PartRoom l.inputs) (parts_view l.parts.items) → Inside all (parts_view l.parts.items) → Passes l.inputs all (take l.at (parts_view l.parts.items)) l.fn.passed l.passed
