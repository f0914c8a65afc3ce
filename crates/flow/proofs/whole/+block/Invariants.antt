use Rattle.std.proofs.Common.{◌≡◌, drop}
use Rattle.flow.specs.declared.statement.Block.{out-Block}
use Rattle.flow.specs.View.{block_view, block_of, statements_view}
use Rattle.flow.specs.Tests.{fits}
use Rattle.flow.specs.Viewed.{owners_of}
use Rattle.flow.proofs.whole.+block.Given as goal

abbrev pub invariant-is_block_fit-loop-statement : goal.invariant-is_block_fit-loop-statement
invariant-is_block_fit-loop-statement g l =
    fits (owners_of {A = g.row.A.Denot} l.scopes) l.functions (block_view l.block)
    ≡ fits (owners_of {A = g.row.A.Denot} l.scopes) l.functions (block_of (statements_view (drop l.statement-index (out-Block g.row.A.Denot l.block).statements.items)))
