use Rattle.std.proofs.Common.{◌≡◌, ◌++◌, map, drop}
use Rattle.syntax_trees.specs.View.{declaration_of}
use Rattle.explain_warnings.specs.Marks.{is_marked}
use Rattle.explain_warnings.specs.Warnings.{idle}
use Rattle.explain_warnings.proofs.warning.idle_inputs.Given as goal

abbrev pub invariant-loop-i : goal.invariant-loop-i
invariant-loop-i g l =
    l.fn.found.items ++ idle (is_marked l.read) 0 (map declaration_of l.inputs.items)
    ≡ l.found.items ++ idle (is_marked l.read) l.i (map declaration_of (drop l.i l.inputs.items))
