use Rattle.std.proofs.Common.{◌∙◌, ap, sym, subst, map, [], ◌∷◌, ◌<◌, List, arith, length}
use Rattle.std.proofs.lemmas.Grind.{common_steps}
use Rattle.std.proofs.lemmas.List.{map-append, length-map}
use Rattle.flow.specs.Shapes.{kinds_of_function}
use Rattle.flow.specs.View.{name_view, names_view}
use Rattle.task_code.specs.Code as pure
use Rattle.task_code.specs.View as code_view
use Rattle.emit_cells.specs.Chunk.{InputPasses, OneByOne, no_pair}
use Rattle.emit_cells.proofs.Calls.{ones_more}
use Rattle.emit_cells.proofs.parts.call_inputs.Goals as goal

pub loop-number-init : goal.loop-number-init
loop-number-init g c all passed room =
    let A = g.row.A.Denot in
    subst (λ (l : List pure.Argument). OneByOne (InputPasses (map (kinds_of_function {A = A}) c.args.functions.now.items) c.args.inputs all c.args.call.now.function) 0 [] l)
    (sym (ap (map code_view.argument_view) c.in_ok-found.ensures.items)) no_pair

pub loop-number-preserved : goal.loop-number-preserved
loop-number-preserved g c all passed room =
    let A = g.row.A.Denot in
    ones_more (InputPasses (map (kinds_of_function {A = A}) c.args.functions.now.items) c.args.inputs all c.args.call.now.function) (names_view c.args.call.now.inputs.items) c.loop-number.number
    (map code_view.argument_view c.loop-number.found.items) (map code_view.argument_view c.push.new.self.items) (code_view.argument_view c.in_ok-input_at.field-0)
    (let t : c.loop-number.number < length c.args.call.now.inputs.items = grind (arith, common_steps) in omega (arith, length-map c.args.call.now.inputs.items name_view))
    (c.loop-number.invariant all passed room) (c.in_ok-input_at.ensures all passed room)
    (ap (map code_view.argument_view) c.in_ok-push.ensures.items ∙ map-append code_view.argument_view c.loop-number.found.items (c.in_ok-input_at.field-0 ∷ []))
