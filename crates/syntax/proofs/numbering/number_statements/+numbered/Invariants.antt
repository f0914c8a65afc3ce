use Rattle.std.proofs.Common.{◌≡◌, ◌≤◌, ◌+◌, ◌*◌, length, map}
use Rattle.std.specs.List.{sum_by}
use Rattle.syntax_trees.specs.View.{statement_view, command_view, body_view}
use Rattle.language.specs.Numbered.{numbered_each, numbered_statement, statement_size, command_size, body_size}
use Rattle.syntax.proofs.NumberSteps.{half, left}
use Rattle.syntax.proofs.numbering.number_statements.+numbered.Given as goal

abbrev pub decreases-statement : goal.decreases-statement
decreases-statement g l = 4 * statement_size (statement_view l.stmt.now)

abbrev pub decreases-command : goal.decreases-command
decreases-command g l = 4 * command_size (command_view l.kind.now) + 3

abbrev pub decreases-block : goal.decreases-block
decreases-block g l = 4 * body_size (body_view l.block.now) + 2

abbrev pub decreases-statements : goal.decreases-statements
decreases-statements g l = 4 * sum_by statement_size (map statement_view l.stmts.now.items) + 1

abbrev pub invariant-statements-loop-i : goal.invariant-statements-loop-i
invariant-statements-loop-i g l = record {
  long : length l.stmts.items ≡ length l.initial.stmts.items;
  numbered : half statement_view numbered_statement statement_size l.stmts.items l.i l.next ≡ numbered_each numbered_statement statement_size l.fn.from (map statement_view l.initial.stmts.items);
  counts : l.next + left statement_view numbered_statement statement_size l.stmts.items l.i ≡ l.fn.from + sum_by statement_size (map statement_view l.initial.stmts.items);
  grows : l.fn.from ≤ l.next;
}
