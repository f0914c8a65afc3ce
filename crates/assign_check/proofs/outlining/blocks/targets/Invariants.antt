use Rattle.std.proofs.Common.{◌≡◌, ◌++◌, map, drop}
use Rattle.syntax_trees.specs.View.{word_of}
use Rattle.types.specs.Typed.{table_of}
use Rattle.assign_check.specs.Outline as outline
use Rattle.assign_check.specs.View.{steps_view}
use Rattle.assign_check.proofs.outlining.blocks.targets.Given as goal

abbrev pub invariant-loop-name : goal.invariant-loop-name
invariant-loop-name g l =
    steps_view l.fn.steps.items ++ map (outline.use_of (table_of l.typed) outline.named) (map word_of l.names.items)
    ≡ steps_view l.steps.items ++ map (outline.use_of (table_of l.typed) outline.named) (map word_of (drop l.name-index l.names.items))
