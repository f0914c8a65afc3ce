use Rattle.std.proofs.Common.{◌≡◌, ◌+◌, ◌*◌, ◌++◌, map, drop}
use Rattle.std.specs.List.{sum_by}
use Rattle.syntax_trees.specs.View.{statement_view, command_view, body_view}
use Rattle.language.specs.Tree.{statements_of}
use Rattle.language.specs.Numbered.{statement_size, command_size, body_size}
use Rattle.types.specs.Typed.{table_of}
use Rattle.assign_check.specs.Outline as outline
use Rattle.assign_check.specs.View.{steps_view}
use Rattle.assign_check.proofs.outlining.blocks.+stmt.Given as goal

abbrev pub decreases-statement : goal.decreases-statement
decreases-statement g l = 5 * statement_size (statement_view l.stmt.now)

abbrev pub decreases-command : goal.decreases-command
decreases-command g l = 5 * command_size (command_view l.kind.now) + 4

abbrev pub decreases-inner : goal.decreases-inner
decreases-inner g l = 5 * body_size (body_view l.body.now) + 3

abbrev pub decreases-block : goal.decreases-block
decreases-block g l = 5 * body_size (body_view l.body.now) + 2

abbrev pub decreases-each : goal.decreases-each
decreases-each g l = 5 * sum_by statement_size (map statement_view l.statements.now.items) + 1

abbrev pub invariant-each-loop-stmt : goal.invariant-each-loop-stmt
invariant-each-loop-stmt g l =
    steps_view l.fn.steps.items ++ outline.all_steps (table_of l.typed) (statements_of (map statement_view l.statements.items))
    ≡ steps_view l.steps.items ++ outline.all_steps (table_of l.typed) (statements_of (map statement_view (drop l.stmt-index l.statements.items)))
