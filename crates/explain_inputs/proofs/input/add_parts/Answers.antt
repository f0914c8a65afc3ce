use Rattle.std.proofs.Common.{rules, arith, ◌≡◌, ◌<◌, ◌++◌, length, get_or, refl}
use Rattle.std.proofs.lemmas.Grind.{common_steps}
use Rattle.std.specs.Prelude.{List}
use Rattle.flow.specs.declared.cell.CellPart.{CellPart}
use Rattle.flow.specs.View.{part_view, parts_view}
use Rattle.explain_inputs.specs.Inputs.{inputs_view, part_inputs, parts_inputs}
use Rattle.flow_index.proofs.Adding.{one_more}
use Rattle.explain_inputs.proofs.input.add_parts.Goals as goal

pub loop-part-preserved : goal.loop-part-preserved
loop-part-preserved g c =
    let A = g.row.A.Denot in
    let ps = c.args.parts.now in
    let within : c.loop-part.part-index < length c.args.parts.now = grind (arith, common_steps) in
    let item : get_or c.args.parts.now c.loop-part.part-index c.part-item.result ≡ c.part-item.result = search rules in
    one_more (λ (z : List (CellPart A)). parts_inputs (parts_view {A = A} z)) (λ (z : CellPart A). part_inputs (part_view {A = A} z)) (λ x ys. refl)
    (inputs_view c.args.inputs.now.items ++ parts_inputs (parts_view {A = A} ps)) (inputs_view c.loop-part.inputs.items) (inputs_view c.add_part.new.inputs.items)
    ps c.loop-part.part-index c.part-item.result within item c.loop-part.invariant c.in_ok-add_part.ensures
