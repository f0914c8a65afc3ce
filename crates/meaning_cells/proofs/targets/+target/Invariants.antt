use Rattle.std.proofs.Common.{◌≡◌, drop}
use Rattle.flow.specs.declared.statement.Block.{out-Block}
use Rattle.flow.specs.View.{owned_view, block_view, block_of, statements_view}
use Rattle.meaning_cells.specs.Targeted.{aims_in}
use Rattle.meaning_cells.proofs.targets.+target.Given as goal

abbrev pub invariant-is_target_in-loop-statement : goal.invariant-is_target_in-loop-statement
invariant-is_target_in-loop-statement g l =
    aims_in (owned_view l.what) (block_view l.block)
    ≡ aims_in (owned_view l.what) (block_of (statements_view (drop l.statement-index (out-Block g.row.A.Denot l.block).statements.items)))
