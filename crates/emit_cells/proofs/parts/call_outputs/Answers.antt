use Rattle.std.proofs.Common.{◌∙◌, ap, sym, subst, map, [], ◌∷◌, ◌<◌, List, arith, length}
use Rattle.std.proofs.lemmas.Grind.{common_steps}
use Rattle.std.proofs.lemmas.List.{map-append, length-map}
use Rattle.flow.specs.Shapes.{kinds_of_function}
use Rattle.flow.specs.View.{name_view, names_view}
use Rattle.task_code.specs.Code as pure
use Rattle.task_code.specs.View as code_view
use Rattle.emit_cells.specs.Chunk.{OutputPasses, OneByOne, no_pair}
use Rattle.emit_cells.proofs.Calls.{ones_more}
use Rattle.emit_cells.proofs.parts.call_outputs.Goals as goal

pub loop-number-init : goal.loop-number-init
loop-number-init g c room =
    let A = g.row.A.Denot in
    subst (λ (l : List pure.Name). OneByOne (OutputPasses (map (kinds_of_function {A = A}) c.args.functions.now.items) c.args.inputs c.args.call.now.function) 0 [] l)
    (sym (ap (map code_view.name_view) c.in_ok-found.ensures.items)) no_pair

pub loop-number-preserved : goal.loop-number-preserved
loop-number-preserved g c room =
    let A = g.row.A.Denot in
    ones_more (OutputPasses (map (kinds_of_function {A = A}) c.args.functions.now.items) c.args.inputs c.args.call.now.function) (names_view c.args.call.now.outputs.items) c.loop-number.number
    (map code_view.name_view c.loop-number.found.items) (map code_view.name_view c.push.new.self.items) (code_view.name_view c.output_at.result)
    (let t : c.loop-number.number < length c.args.call.now.outputs.items = grind (arith, common_steps) in omega (arith, length-map c.args.call.now.outputs.items name_view))
    (c.loop-number.invariant room) (c.output_at.ensures room)
    (ap (map code_view.name_view) c.in_ok-push.ensures.items ∙ map-append code_view.name_view c.loop-number.found.items (c.output_at.result ∷ []))
