use Rattle.std.proofs.Common.{List, map, take}
use Rattle.language.specs.Core.{Part}
use Rattle.flow.specs.Shapes.{kinds_of_function}
use Rattle.flow.specs.View.{names_view}
use Rattle.task_code.specs.View as code_view
use Rattle.code_rules.specs.Room.{Each, NameRoom}
use Rattle.emit_cells.specs.Chunk.{InputPasses, IsPassed, OneByOne}
use Rattle.emit_cells.proofs.parts.call_inputs.Given as goal

abbrev pub invariant-loop-number : goal.invariant-loop-number
invariant-loop-number g l =
    (all : List Part) → IsPassed l.inputs all l.passed → Each (NameRoom l.inputs) (names_view l.call.inputs.items)
    → OneByOne (InputPasses (map kinds_of_function l.functions.items) l.inputs all l.call.function) 0 (take l.number (names_view l.call.inputs.items)) (map code_view.argument_view l.found.items)
