use Rattle.flow.proofs.Anchors.{insert_anchors}
use Rattle.flow.proofs.Growing.{among_as, among_each}
use Rattle.lowering.proofs.statement.insert.Goals as goal

pub returns-clause-cells : goal.returns-clause-cells
returns-clause-cells g c = among_as (insert_anchors c.refer.result c.in_ok-index.index c.in_ok-right.right) (among_each _ _ _ _ c.in_ok-index.ensures.cells c.in_ok-right.ensures.cells)
