use Rattle.flow.proofs.Anchors.{assign_anchors}
use Rattle.flow.proofs.Growing.{among_as}
use Rattle.lowering.proofs.right.assign.Goals as goal

pub returns-clause-cells : goal.returns-clause-cells
returns-clause-cells g c = among_as (assign_anchors c.args.target c.in_ok-boxed_outer.field-0) c.in_ok-boxed_outer.ensures.cells
