use Rattle.std.proofs.Common.{◌≡◌, drop}
use Rattle.flow.specs.declared.statement.Block.{out-Block}
use Rattle.flow.specs.View.{block_view, block_of, statements_view}
use Rattle.flow.specs.Names.{block_nodes}
use Rattle.flow.specs.Viewed.{plus, times_as}
use Rattle.flow.proofs.declaring.times_in_block.Given as goal

abbrev pub invariant-loop-statement : goal.invariant-loop-statement
invariant-loop-statement g l =
    plus l.times (times_as l.node (block_nodes (block_of (statements_view (drop l.statement-index (out-Block g.row.A.Denot l.block).statements.items)))))
    ≡ times_as l.node (block_nodes (block_view l.block))
