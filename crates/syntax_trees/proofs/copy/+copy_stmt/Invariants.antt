use Rattle.std.proofs.Common.{◌≡◌, ◌+◌, ◌*◌, map, take}
use Rattle.std.specs.List.{sum_by}
use Rattle.syntax_trees.specs.View.{statement_view, command_view, body_view}
use Rattle.language.specs.Numbered.{body_size, command_size, statement_size}
use Rattle.syntax_trees.proofs.copy.+copy_stmt.Given as goal

abbrev pub decreases-copy_stmt : goal.decreases-copy_stmt
decreases-copy_stmt g l = 5 * statement_size (statement_view l.stmt.now)

abbrev pub decreases-copy_command : goal.decreases-copy_command
decreases-copy_command g l = 5 * command_size (command_view l.kind.now) + 4

abbrev pub decreases-copy_block : goal.decreases-copy_block
decreases-copy_block g l = 5 * body_size (body_view l.block.now) + 3

abbrev pub decreases-copy_stmts : goal.decreases-copy_stmts
decreases-copy_stmts g l = 5 * sum_by statement_size (map statement_view l.stmts.now.items) + 1

abbrev pub invariant-copy_stmts-loop-stmt : goal.invariant-copy_stmts-loop-stmt
invariant-copy_stmts-loop-stmt g l = map statement_view l.copies.items ≡ map statement_view (take l.stmt-index l.stmts.items)
