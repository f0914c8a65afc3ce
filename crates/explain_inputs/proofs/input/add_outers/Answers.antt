use Rattle.std.proofs.Common.{rules, arith, ◌≡◌, ◌<◌, ◌++◌, length, get_or, refl}
use Rattle.std.proofs.lemmas.Grind.{common_steps}
use Rattle.std.specs.Prelude.{List}
use Rattle.std.specs.Borrow.{Bor}
use Rattle.flow.specs.declared.cell.OuterCell.{OuterCell}
use Rattle.flow.specs.View.{outer_view}
use Rattle.meaning_cells.specs.Listed.{outers_listed}
use Rattle.explain_inputs.specs.Inputs.{inputs_view, outer_inputs, outers_inputs}
use Rattle.flow_index.proofs.Adding.{one_more}
use Rattle.explain_inputs.proofs.input.add_outers.Goals as goal

pub loop-outer-preserved : goal.loop-outer-preserved
loop-outer-preserved g c =
    let A = g.row.A.Denot in
    let os = c.args.outers.now in
    let within : c.loop-outer.outer-index < length c.args.outers.now = grind (arith, common_steps) in
    let item : get_or c.args.outers.now c.loop-outer.outer-index c.outer-item.result ≡ c.outer-item.result = search rules in
    one_more (λ (z : List (Bor (OuterCell A))). outers_inputs (outers_listed {A = A} z)) (λ (z : Bor (OuterCell A)). outer_inputs (outer_view {A = A} z.now)) (λ x ys. refl)
    (inputs_view c.args.inputs.now.items ++ outers_inputs (outers_listed {A = A} os)) (inputs_view c.loop-outer.inputs.items) (inputs_view c.add_outer.new.inputs.items)
    os c.loop-outer.outer-index c.outer-item.result within item c.loop-outer.invariant c.in_ok-add_outer.ensures
