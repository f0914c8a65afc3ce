use Rattle.std.proofs.Common.{map}
use Rattle.flow.specs.Shapes.{kinds_of_function}
use Rattle.flow.specs.View.{name_view}
use Rattle.task_code.specs.View as code_view
use Rattle.code_rules.specs.Room.{NameRoom}
use Rattle.emit_cells.specs.Chunk.{OutputPasses}
use Rattle.emit_cells.proofs.Calls.{one_at, each_at, output_passes}
use Rattle.emit_cells.proofs.parts.output_at.Goals as goal

pub returns : goal.returns
returns g c room =
    let A = g.row.A.Denot in
    let k = c.args.inputs in
    let f = c.args.call.now.function in
    let i = c.args.number in
    let xs = c.args.call.now.outputs.items in
    let x = c.index-name.result.now in
    let fs = map (kinds_of_function {A = A}) c.args.functions.now.items in
    let r = code_view.name_view c.named.result in
    one_at name_view (OutputPasses fs k f) xs i x x r c.requires c.index-name.ensures
    (output_passes fs k f i c.is_array_output-array.result (name_view x) r c.is_array_output-array.ensures (c.named.ensures (each_at name_view (NameRoom k) xs i x x c.requires c.index-name.ensures room)))
