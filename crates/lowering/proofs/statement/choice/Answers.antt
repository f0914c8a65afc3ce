use Rattle.flow.proofs.Anchors.{when_anchors}
use Rattle.flow.proofs.Growing.{among_as, among_each, among_self}
use Rattle.lowering.proofs.statement.choice.Goals as goal

pub returns-clause-cells : goal.returns-clause-cells
returns-clause-cells g c = among_as (when_anchors c.in_ok-condition.condition c.args.then) (among_each _ _ _ _ c.in_ok-condition.ensures.cells (among_self _))
