use Rattle.std.proofs.Common.{◌≡◌, ◌++◌, map, take, drop}
use Rattle.syntax_trees.specs.View.{statement_view}
use Rattle.constant_fold.specs.Folded.{folded_statement}
use Rattle.constant_fold.proofs.statement.+folded.Given as goal

abbrev pub invariant-statements-loop-i : goal.invariant-statements-loop-i
invariant-statements-loop-i g l =
    goal.unvisited-statements-loop-i g l
    × (map folded_statement (map statement_view l.initial.statements.items) ≡ map statement_view (take l.i l.statements.items) ++ map folded_statement (map statement_view (drop l.i l.statements.items)))
