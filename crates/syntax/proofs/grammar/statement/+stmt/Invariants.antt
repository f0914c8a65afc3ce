use Rattle.std.proofs.Common.{◌≡◌, ℕ, ◌+◌, ◌*◌, ◌<◌, ◌≤◌, length, map}
use Rattle.std.specs.Prelude.{not}
use Rattle.syntax_trees.specs.View.{statement_view}
use Rattle.lexer.specs.declared.token.TokenKind.TheVariants as Kind
use Rattle.syntax.specs.Readers.{at, many_over}
use Rattle.syntax.specs.Reading.{read_stmt, read_stmts}
use Rattle.syntax.proofs.grammar.statement.+stmt.Given as goal

abbrev pub decreases-stmts : goal.decreases-stmts
decreases-stmts g l = 16 * l.depth + 15

abbrev pub decreases-statement : goal.decreases-statement
decreases-statement g l = 16 * l.depth + 14

abbrev pub decreases-choice : goal.decreases-choice
decreases-choice g l = 16 * l.depth + 12

abbrev pub decreases-foreach : goal.decreases-foreach
decreases-foreach g l = 16 * l.depth + 12

abbrev pub decreases-wait : goal.decreases-wait
decreases-wait g l = 16 * l.depth + 12

abbrev pub decreases-else_branch : goal.decreases-else_branch
decreases-else_branch g l = 16 * l.depth + 10

abbrev pub decreases-other : goal.decreases-other
decreases-other g l = 16 * l.depth + 8

abbrev pub decreases-block : goal.decreases-block
decreases-block g l = 16 * l.depth + 6

abbrev pub decreases-stmts-loop-statements : goal.decreases-stmts-loop-statements
decreases-stmts-loop-statements g l = length l.cursor.rest

abbrev pub invariant-stmts-loop-statements : goal.invariant-stmts-loop-statements
invariant-stmts-loop-statements g l =
    (n : ℕ) × (length l.cursor.rest < n)
    × (read_stmts l.depth l.fn.cursor ≡ many_over (λ s. not (at Kind.CloseCurly s)) (read_stmt l.depth) n (map statement_view l.statements.items) l.cursor)
    × (length l.cursor.rest ≤ length l.fn.cursor.rest)
