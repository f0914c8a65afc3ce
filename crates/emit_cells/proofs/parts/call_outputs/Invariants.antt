use Rattle.std.proofs.Common.{map, take}
use Rattle.flow.specs.Shapes.{kinds_of_function}
use Rattle.flow.specs.View.{names_view}
use Rattle.task_code.specs.View as code_view
use Rattle.code_rules.specs.Room.{Each, NameRoom}
use Rattle.emit_cells.specs.Chunk.{OutputPasses, OneByOne}
use Rattle.emit_cells.proofs.parts.call_outputs.Given as goal

abbrev pub invariant-loop-number : goal.invariant-loop-number
invariant-loop-number g l =
    Each (NameRoom l.inputs) (names_view l.call.outputs.items)
    → OneByOne (OutputPasses (map kinds_of_function l.functions.items) l.inputs l.call.function) 0 (take l.number (names_view l.call.outputs.items)) (map code_view.name_view l.found.items)
