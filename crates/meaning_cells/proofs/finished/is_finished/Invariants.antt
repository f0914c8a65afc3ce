use Rattle.flow.specs.View.{block_view, core_of, owned_view}
use Rattle.meaning_cells.specs.Ending.{goals_of}
use Rattle.meaning_cells.proofs.Ending.{IsLeft}
use Rattle.meaning_cells.proofs.finished.is_finished.Given as goal

abbrev pub invariant-loop : goal.invariant-loop
invariant-loop g l =
    IsLeft (core_of l.flow) l.fact_base (record { instance = l.fn.body.instance; what = owned_view l.fn.body.what; block = block_view l.fn.body.block.now }) (goals_of l.tasks.items)
