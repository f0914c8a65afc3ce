use Rattle.flow.proofs.Anchors.{wait_anchors}
use Rattle.lowering.proofs.statement.waiting.Goals as goal

pub returns-clause-cells : goal.returns-clause-cells
returns-clause-cells g c = wait_anchors c.in_ok-names.names _ c.args.content
