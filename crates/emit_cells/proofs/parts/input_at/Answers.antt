use Rattle.std.proofs.Common.{map, [], ◌∷◌, List}
use Rattle.std.proofs.lemmas.Result.{IfOk-weaker}
use Rattle.language.specs.Core.{Part}
use Rattle.flow.specs.Shapes.{kinds_of_function}
use Rattle.flow.specs.View.{name_view, names_view}
use Rattle.task_code.specs.View as code_view
use Rattle.task_code.specs.declared.entry.Argument.{Argument}
use Rattle.code_rules.specs.Room.{Each, NameRoom}
use Rattle.emit_cells.specs.Chunk.{InputPasses, IsPassed, NamePasses, OneByOne, name_at}
use Rattle.emit_cells.proofs.Calls.{one_at, each_at, input_passes}
use Rattle.emit_cells.proofs.parts.input_at.Goals as goal

pub returns : goal.returns
returns g c =
    let A = g.row.A.Denot in
    let k = c.args.inputs in
    let f = c.args.call.now.function in
    let i = c.args.number in
    let xs = c.args.call.now.inputs.items in
    let x = c.index-name.result.now in
    let b = c.is_array_input-array.result in
    let fs = map (kinds_of_function {A = A}) c.args.functions.now.items in
    IfOk-weaker c.input.result
    (λ (a : Argument). (all : List Part) → IsPassed k all c.args.passed.now → NameRoom k (name_view x) → NamePasses k all b (name_view x) (code_view.argument_view a))
    (λ (a : Argument). (all : List Part) → IsPassed k all c.args.passed.now → Each (NameRoom k) (names_view xs) → OneByOne (InputPasses fs k all f) i (name_at (names_view xs) i) (code_view.argument_view a ∷ []))
    (λ a h all passed room.
    one_at name_view (InputPasses fs k all f) xs i x x (code_view.argument_view a) c.requires c.index-name.ensures
    (input_passes fs k all f i b (name_view x) (code_view.argument_view a) c.is_array_input-array.ensures (h all passed (each_at name_view (NameRoom k) xs i x x c.requires c.index-name.ensures room))))
    c.input.ensures
