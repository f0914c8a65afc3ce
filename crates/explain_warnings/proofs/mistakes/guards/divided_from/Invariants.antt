use Rattle.std.proofs.Common.{◌≡◌, map, drop}
use Rattle.syntax_trees.specs.View.{expression_view}
use Rattle.language.specs.Tree.{expressions_of}
use Rattle.explain_warnings.specs.Guards.{divided_from}
use Rattle.explain_warnings.proofs.mistakes.guards.divided_from.Given as goal

abbrev pub invariant-loop-i : goal.invariant-loop-i
invariant-loop-i g l =
    divided_from l.name l.operators 0 (expressions_of (map expression_view l.operands))
    ≡ divided_from l.name l.operators l.i (expressions_of (map expression_view (drop l.i l.operands)))
