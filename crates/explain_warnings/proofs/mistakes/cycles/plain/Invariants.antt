use Rattle.std.proofs.Common.{◌≡◌, [], map, drop}
use Rattle.syntax_trees.specs.View.{statement_view}
use Rattle.language.specs.Tree.{statements_of}
use Rattle.explain_warnings.specs.Cycles.{plain}
use Rattle.explain_warnings.specs.View.{statements_in}
use Rattle.explain_warnings.proofs.mistakes.cycles.plain.Given as goal

abbrev pub invariant-loop-stmt : goal.invariant-loop-stmt
invariant-loop-stmt g l =
    plain [] (statements_of (map statement_view l.statements.items))
    ≡ plain (statements_in l.before.items) (statements_of (map statement_view (drop l.stmt-index l.statements.items)))
