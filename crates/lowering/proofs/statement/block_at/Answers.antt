use Rattle.std.proofs.Common.{rules, ◌∙◌}
use Rattle.flow.specs.declared.statement.Statement.{the_lemmas}
use Rattle.flow.proofs.Anchors.{anchors_block}
use Rattle.lowering.proofs.statement.block_at.Goals as goal

pub returns-clause-cells : goal.returns-clause-cells
returns-clause-cells g c = anchors_block g.row.A.Denot _ ∙ search (rules, the_lemmas)
