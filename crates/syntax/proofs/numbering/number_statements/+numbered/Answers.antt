use Rattle.std.proofs.Common.{rules}
use Rattle.syntax_trees.proofs.Views.{block-size}
use Rattle.syntax.proofs.NumberViews.{block_numbered}
use Rattle.syntax.proofs.numbering.number_statements.+numbered.Goals as goal

pub block-statements-requires : goal.block-statements-requires
block-statements-requires g t c κs within =
    let size = block-size g.row.A.Denot c.args.block.now in
    search rules

pub block-returns-clause-numbered : goal.block-returns-clause-numbered
block-returns-clause-numbered g t c = block_numbered g.row.A.Denot c.args.from c.args.block.now c.statements.new.stmts c.statements.ensures.numbered

pub block-returns-clause-next : goal.block-returns-clause-next
block-returns-clause-next g t c =
    let size = block-size g.row.A.Denot c.args.block.now in
    search rules
