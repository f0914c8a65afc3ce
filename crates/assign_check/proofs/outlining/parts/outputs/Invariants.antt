use Rattle.std.proofs.Common.{◌≡◌, ◌++◌, map, drop}
use Rattle.language.specs.Core.{output}
use Rattle.syntax_trees.specs.View.{declaration_of}
use Rattle.assign_check.specs.Outline as outline
use Rattle.assign_check.specs.View.{steps_view}
use Rattle.assign_check.proofs.outlining.parts.outputs.Given as goal

abbrev pub invariant-loop-i : goal.invariant-loop-i
invariant-loop-i g l =
    steps_view l.fn.steps.items ++ outline.parameters outline.result output 0 (map declaration_of l.decls.items)
    ≡ steps_view l.steps.items ++ outline.parameters outline.result output l.i (map declaration_of (drop l.i l.decls.items))
