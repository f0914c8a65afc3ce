use Rattle.std.proofs.Common.{◌≡◌, ◌++◌, [], map, drop}
use Rattle.syntax_trees.specs.View.{statement_view}
use Rattle.language.specs.Tree.{statements_of}
use Rattle.explain_warnings.specs.Repeats.{repeats}
use Rattle.explain_warnings.specs.View.{statements_in}
use Rattle.explain_warnings.proofs.mistakes.repeats.list_repeats.Given as goal

abbrev pub invariant-loop-stmt : goal.invariant-loop-stmt
invariant-loop-stmt g l =
    l.fn.name_uses.items ++ repeats [] (statements_of (map statement_view l.statements.items))
    ≡ l.name_uses.items ++ repeats (statements_in l.before.items) (statements_of (map statement_view (drop l.stmt-index l.statements.items)))
