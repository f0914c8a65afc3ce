use Rattle.std.proofs.Common.{arith, ◌≡◌, ◌∷◌, ◌++◌, [], List, ap, ◌∙◌}
use Rattle.std.proofs.lemmas.Grind.{common_steps}
use Rattle.flow.specs.declared.cell.OuterCell.{OuterCell}
use Rattle.flow.specs.declared.cell.CellForm.TheVariants.{Compute}
use Rattle.flow.specs.declared.expression.Expr.{Whole}
use Rattle.flow.specs.View.{outer_view}
use Rattle.flow.specs.declared.cell.CellPart.{CellPart}
use Rattle.flow.specs.Cells.{Anchor, outer_anchors, parts_anchors}
use Rattle.lowering.proofs.Wholes.{whole_outer}
use Rattle.lowering.proofs.right.boxed_whole.Goals as goal

pub returns-clause-outer : goal.returns-clause-outer
returns-clause-outer g c =
    let A = g.row.A.Denot in
    let found : OuterCell A = record { parts = c.new-parts.result; cell = record { node = c.args.node; at = c.args.at; form = Compute (Whole c.args.elements) } } in
    let boxed : c.in_ok-new.field-0.value ≡ found = grind (arith, common_steps) in
    ap outer_view boxed ∙ whole_outer c.args.node c.new-parts.result.items c.args.elements c.new-parts.ensures.items

pub returns-clause-cells : goal.returns-clause-cells
returns-clause-cells g c =
    let A = g.row.A.Denot in
    let own : Anchor = record { node = c.args.node; at = c.args.at } in
    let found : OuterCell A = record { parts = c.new-parts.result; cell = record { node = c.args.node; at = c.args.at; form = Compute (Whole c.args.elements) } } in
    let boxed : c.in_ok-new.field-0.value ≡ found = grind (arith, common_steps) in
    ap (outer_anchors {A = A}) boxed ∙ ap (λ (ps : List (CellPart A)). parts_anchors ps ++ own ∷ []) c.new-parts.ensures.items
