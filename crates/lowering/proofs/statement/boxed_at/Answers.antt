use Rattle.std.proofs.Common.{ap, ◌∙◌}
use Rattle.flow.specs.Cells.{block_anchors}
use Rattle.flow.specs.Listed.{block_listed}
use Rattle.lowering.proofs.statement.boxed_at.Goals as goal

pub returns-clause-listed : goal.returns-clause-listed
returns-clause-listed g c =
    let A = g.row.A.Denot in
    ap (block_listed {A = A}) c.in_ok-new.ensures.ok ∙ c.block_at.ensures.listed

pub returns-clause-cells : goal.returns-clause-cells
returns-clause-cells g c =
    let A = g.row.A.Denot in
    ap (block_anchors {A = A}) c.in_ok-new.ensures.ok ∙ c.block_at.ensures.cells
