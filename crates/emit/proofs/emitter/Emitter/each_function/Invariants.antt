use Rattle.std.proofs.Common.{map, drop}
use Rattle.flow.specs.Shapes.{kinds_of_function}
use Rattle.std.specs.List.{flat_map}
use Rattle.flow.specs.Cells.{function_anchors}
use Rattle.emit.specs.Emits.{AddsMarks, laying_of, roots_of}
use Rattle.emit.proofs.Scripts.{FunctionsOn}
use Rattle.emit.proofs.emitter.Emitter.each_function.Given as goal

abbrev pub invariant-loop-function : goal.invariant-loop-function
invariant-loop-function g l =
    FunctionsOn (map kinds_of_function l.functions.items) (roots_of l.functions.items) l.functions.items (drop l.function-index l.functions.items)
    (laying_of l.fn.self) (laying_of l.self) l.fn.found.items l.found.items
    × AddsMarks l.fn.self l.self (flat_map function_anchors l.functions.items)
