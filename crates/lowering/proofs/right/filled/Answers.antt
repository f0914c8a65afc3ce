use Rattle.std.proofs.Common.{◌∙◌}
use Rattle.flow.proofs.Anchors.{fill_anchors}
use Rattle.lowering.proofs.right.filled.Goals as goal

pub returns-clause-cells : goal.returns-clause-cells
returns-clause-cells g c = fill_anchors c.args.array c.in_ok-right.right ∙ c.in_ok-right.ensures.cells
