use Rattle.std.proofs.Common.{ap}
use Rattle.flow.specs.Cells.{range_anchors}
use Rattle.flow.proofs.Growing.{among_as}
use Rattle.lowering.proofs.statement.boxed_range.Goals as goal

pub returns-clause-cells : goal.returns-clause-cells
returns-clause-cells g c = among_as (ap (range_anchors {A = g.row.A.Denot}) c.in_ok-new.ensures.ok) c.in_ok-range.ensures.cells
