use Rattle.std.proofs.Common.{◌≡◌, ◌-◌}
use Rattle.flow.specs.View.{block_view, owned_view}
use Rattle.meaning_cells.specs.Chosen.{choice_view, count_in}
use Rattle.meaning_cells.specs.Ending.{behind, goals_of, turn_goals}
use Rattle.meaning_cells.proofs.finished.add_opened.Given as goal

abbrev pub invariant-loop-i : goal.invariant-loop-i
invariant-loop-i g l =
    behind (goals_of l.initial.tasks.items) (turn_goals l.fact_base l.instance (owned_view l.what) l.at (block_view l.block) (choice_view l.choice) 0 (count_in (choice_view l.choice)))
    ≡ behind (goals_of l.tasks.items) (turn_goals l.fact_base l.instance (owned_view l.what) l.at (block_view l.block) (choice_view l.choice) l.i (count_in (choice_view l.choice) - l.i))
