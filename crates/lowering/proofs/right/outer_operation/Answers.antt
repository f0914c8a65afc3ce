use Rattle.std.proofs.Common.{arith, ◌≡◌, ◌∷◌, [], List, map, ap}
use Rattle.std.proofs.lemmas.Grind.{common_steps}
use Rattle.syntax_trees.specs.View.{expression_view}
use Rattle.flow.specs.declared.cell.OuterCell.{OuterCell}
use Rattle.flow.specs.Cells.{Anchor, outer_anchors}
use Rattle.flow.proofs.Growing.{among_as, among_left, among_right, grows_among}
use Rattle.lowering.specs.Nodes.{all_nodes}
use Rattle.lowering.proofs.Anchors.{outer_stands}
use Rattle.lowering.proofs.right.outer_operation.Goals as goal

pub returns-clause-cells : goal.returns-clause-cells
returns-clause-cells g c =
    let A = g.row.A.Denot in
    let nodes : List Anchor = all_nodes (map (expression_view {A = A}) c.args.exprs.now.items) in
    let own : Anchor = record { node = c.args.place.node; at = c.args.place.at } in
    let found : OuterCell A = record { parts = c.operation_on.new.parts; cell = record { node = c.args.place.node; at = c.args.place.at; form = c.in_ok-form.form } } in
    let boxed : c.in_ok-new.field-0.value ≡ found = grind (arith, common_steps) in
    among_as (ap (outer_anchors {A = A}) boxed)
    (outer_stands c.new-parts.result.items c.operation_on.new.parts.items own (own ∷ nodes) c.new-parts.ensures.items (grows_among c.in_ok-form.ensures.cells (among_right (own ∷ []) nodes)) (among_left (own ∷ []) nodes))
