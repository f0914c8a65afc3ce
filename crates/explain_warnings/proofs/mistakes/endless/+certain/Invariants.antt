use Rattle.std.proofs.Common.{◌≡◌, ◌+◌, ◌*◌, ◌++◌, map, drop}
use Rattle.std.specs.List.{sum_by}
use Rattle.syntax_trees.specs.View.{statement_view, command_view, body_view}
use Rattle.language.specs.Tree.{statements_of}
use Rattle.language.specs.Numbered.{statement_size, command_size, body_size}
use Rattle.explain_warnings.specs.Endless.{all_certain}
use Rattle.explain_warnings.proofs.mistakes.endless.+certain.Given as goal

abbrev pub decreases-certain : goal.decreases-certain
decreases-certain g l = 5 * statement_size (statement_view l.stmt.now)

abbrev pub decreases-command_certain : goal.decreases-command_certain
decreases-command_certain g l = 5 * command_size (command_view l.kind.now) + 4

abbrev pub decreases-block_certain : goal.decreases-block_certain
decreases-block_certain g l = 5 * body_size (body_view l.body.now) + 2

abbrev pub decreases-each_certain : goal.decreases-each_certain
decreases-each_certain g l = 5 * sum_by statement_size (map statement_view l.statements.now.items) + 1

abbrev pub invariant-each_certain-loop-stmt : goal.invariant-each_certain-loop-stmt
invariant-each_certain-loop-stmt g l =
    l.fn.name_uses.items ++ all_certain (statements_of (map statement_view l.statements.items))
    ≡ l.name_uses.items ++ all_certain (statements_of (map statement_view (drop l.stmt-index l.statements.items)))
