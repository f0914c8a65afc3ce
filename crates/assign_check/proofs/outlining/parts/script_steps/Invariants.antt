use Rattle.std.proofs.Common.{◌≡◌, ◌++◌, map, drop}
use Rattle.syntax_trees.specs.View.{part_of}
use Rattle.types.specs.Typed.{table_of}
use Rattle.assign_check.specs.Outline as outline
use Rattle.assign_check.specs.View.{steps_view}
use Rattle.assign_check.proofs.outlining.parts.script_steps.Given as goal

abbrev pub invariant-loop-item : goal.invariant-loop-item
invariant-loop-item g l =
    outline.script_steps (table_of l.typed) (map part_of l.items.items)
    ≡ steps_view l.steps.items ++ outline.script_steps (table_of l.typed) (map part_of (drop l.item-index l.items.items))
