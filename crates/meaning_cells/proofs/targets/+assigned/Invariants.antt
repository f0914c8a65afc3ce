use Rattle.std.proofs.Common.{◌≡◌, drop}
use Rattle.flow.specs.declared.statement.Block.{out-Block}
use Rattle.flow.specs.View.{owned_view, block_view, block_of, statements_view}
use Rattle.meaning_cells.specs.Targeted.{assigns_in}
use Rattle.meaning_cells.proofs.targets.+assigned.Given as goal

abbrev pub invariant-is_assigned_in-loop-statement : goal.invariant-is_assigned_in-loop-statement
invariant-is_assigned_in-loop-statement g l =
    assigns_in (owned_view l.what) (block_view l.block)
    ≡ assigns_in (owned_view l.what) (block_of (statements_view (drop l.statement-index (out-Block g.row.A.Denot l.block).statements.items)))
