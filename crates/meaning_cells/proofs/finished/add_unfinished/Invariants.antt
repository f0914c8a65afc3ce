use Rattle.std.proofs.Common.{◌≡◌, drop}
use Rattle.flow.specs.declared.statement.Block.{out-Block}
use Rattle.flow.specs.View.{block_of, block_view, core_of, owned_view, statements_view}
use Rattle.meaning_cells.specs.Ending.{behind, goals_in, goals_of}
use Rattle.meaning_cells.proofs.finished.add_unfinished.Given as goal

abbrev pub invariant-loop-statement : goal.invariant-loop-statement
invariant-loop-statement g l =
    behind (goals_of l.initial.tasks.items) (goals_in (core_of l.flow) l.fact_base l.instance (owned_view l.what) (block_view l.block))
    ≡ behind (goals_of l.tasks.items) (goals_in (core_of l.flow) l.fact_base l.instance (owned_view l.what) (block_of (statements_view (drop l.statement-index (out-Block g.row.A.Denot l.block).statements.items))))
