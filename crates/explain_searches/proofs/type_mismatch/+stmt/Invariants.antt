use Rattle.std.proofs.Common.{◌+◌, ◌*◌, map}
use Rattle.std.specs.List.{sum_by}
use Rattle.syntax_trees.specs.View.{statement_view, command_view, body_view}
use Rattle.language.specs.Numbered.{statement_size, command_size, body_size}
use Rattle.explain_searches.proofs.type_mismatch.+stmt.Given as goal

abbrev pub decreases-in_statement : goal.decreases-in_statement
decreases-in_statement g l = 5 * statement_size (statement_view l.stmt.now)

abbrev pub decreases-in_command : goal.decreases-in_command
decreases-in_command g l = 5 * command_size (command_view l.kind.now) + 4

abbrev pub decreases-in_block : goal.decreases-in_block
decreases-in_block g l = 5 * body_size (body_view l.block.now) + 2

abbrev pub decreases-in_each : goal.decreases-in_each
decreases-in_each g l = 5 * sum_by statement_size (map statement_view l.statements.now.items) + 1
