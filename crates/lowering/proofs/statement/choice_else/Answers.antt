use Rattle.flow.proofs.Anchors.{choose_anchors}
use Rattle.flow.proofs.Growing.{among_as, among_each, among_self}
use Rattle.lowering.proofs.statement.choice_else.Goals as goal

pub returns-clause-cells : goal.returns-clause-cells
returns-clause-cells g c = among_as (choose_anchors c.in_ok-condition.condition c.args.then c.args.other) (among_each _ _ _ _ (among_each _ _ _ _ c.in_ok-condition.ensures.cells (among_self _)) (among_self _))
