use Rattle.std.proofs.Common.{◌≡◌, ◌++◌, drop}
use Rattle.flow.specs.View.{block_view, names_view, owned_view}
use Rattle.meaning_cells.specs.Ending.{goals_of, output_goals}
use Rattle.meaning_cells.proofs.finished.add_body.Given as goal

abbrev pub invariant-loop-i : goal.invariant-loop-i
invariant-loop-i g l =
    goals_of l.initial.tasks.items ++ output_goals l.child (owned_view l.what) (block_view l.block) 0 (names_view l.outputs)
    ≡ goals_of l.tasks.items ++ output_goals l.child (owned_view l.what) (block_view l.block) l.i (names_view (drop l.i l.outputs))
