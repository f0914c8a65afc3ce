use Rattle.std.proofs.Common.{◌≡◌, ◌+◌, ◌*◌, ◌++◌, map, drop}
use Rattle.std.specs.List.{sum_by}
use Rattle.syntax_trees.specs.View.{statement_view, command_view, body_view}
use Rattle.language.specs.Tree.{statements_of}
use Rattle.language.specs.Numbered.{statement_size, command_size, body_size}
use Rattle.explain_warnings.specs.Mentions.{all_mentions}
use Rattle.explain_warnings.proofs.occurrences.name_uses.+stmt.Given as goal

abbrev pub decreases-statement : goal.decreases-statement
decreases-statement g l = 5 * statement_size (statement_view l.stmt.now)

abbrev pub decreases-command : goal.decreases-command
decreases-command g l = 5 * command_size (command_view l.kind.now) + 4

abbrev pub decreases-block : goal.decreases-block
decreases-block g l = 5 * body_size (body_view l.body.now) + 2

abbrev pub decreases-each : goal.decreases-each
decreases-each g l = 5 * sum_by statement_size (map statement_view l.statements.now.items) + 1

abbrev pub invariant-each-loop-stmt : goal.invariant-each-loop-stmt
invariant-each-loop-stmt g l =
    l.fn.name_uses.items ++ all_mentions (statements_of (map statement_view l.statements.items))
    ≡ l.name_uses.items ++ all_mentions (statements_of (map statement_view (drop l.stmt-index l.statements.items)))
