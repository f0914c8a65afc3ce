use Rattle.flow.proofs.Growing.{among_each}
use Rattle.lowering.proofs.statement.range.Goals as goal

pub returns-clause-cells : goal.returns-clause-cells
returns-clause-cells g c = among_each _ _ _ _ (among_each _ _ _ _ c.in_ok-low.ensures.cells c.in_ok-high.ensures.cells) c.in_ok-step.ensures.cells
