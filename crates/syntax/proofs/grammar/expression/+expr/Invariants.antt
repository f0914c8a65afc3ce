use Rattle.std.proofs.Common.{◌≡◌, ℕ, suc, ◌+◌, ◌-◌, ◌*◌, ◌<◌, ◌≤◌, ◌++◌, [], List, length, map}
use Rattle.language.specs.declared.tree.Operator.{Operator}
use Rattle.language.specs.Tree.{Expression}
use Rattle.syntax_trees.specs.View.{expression_view}
use Rattle.lexer.specs.declared.token.TokenKind.TheVariants as Kind
use Rattle.syntax.specs.Readers.{at, the, many_over, ◌∗◌, ◌▸◌}
use Rattle.syntax.specs.Reading.{at_operator, read_operator, rank, read_links, read_operand, read_operands, read_expr, read_exprs}
use Rattle.syntax.proofs.combining.Heights.{height}
use Rattle.syntax.proofs.grammar.expression.+expr.Given as goal

abbrev pub decreases-expr : goal.decreases-expr
decreases-expr g l = 50 * l.depth + 40

abbrev pub decreases-chain : goal.decreases-chain
decreases-chain g l = 50 * l.depth + height l.level + 5

abbrev pub decreases-climb : goal.decreases-climb
decreases-climb g l = 50 * l.depth + height l.to + 4

abbrev pub decreases-link : goal.decreases-link
decreases-link g l = 50 * l.depth + height l.level + 3

abbrev pub decreases-rest_of_chain : goal.decreases-rest_of_chain
decreases-rest_of_chain g l = 50 * l.depth + height l.level + 2

abbrev pub decreases-more_operands : goal.decreases-more_operands
decreases-more_operands g l = 50 * l.depth + height l.level + 1

abbrev pub decreases-one_operand : goal.decreases-one_operand
decreases-one_operand g l = 50 * l.depth + height l.level + 1

abbrev pub decreases-operand : goal.decreases-operand
decreases-operand g l = 50 * l.depth + height l.level

abbrev pub decreases-unary : goal.decreases-unary
decreases-unary g l = 50 * l.depth + 3

abbrev pub decreases-prefixed : goal.decreases-prefixed
decreases-prefixed g l = 50 * l.depth + 1

abbrev pub decreases-named : goal.decreases-named
decreases-named g l = 50 * l.depth + 2

abbrev pub decreases-element : goal.decreases-element
decreases-element g l = 50 * l.depth + 1

abbrev pub decreases-application : goal.decreases-application
decreases-application g l = 50 * l.depth + 1

abbrev pub decreases-test : goal.decreases-test
decreases-test g l = 50 * l.depth

abbrev pub decreases-index : goal.decreases-index
decreases-index g l = 50 * l.depth

abbrev pub decreases-arguments : goal.decreases-arguments
decreases-arguments g l = 50 * l.depth

abbrev pub decreases-exprs : goal.decreases-exprs
decreases-exprs g l = 50 * l.depth + 41

abbrev pub decreases-climb-loop-level : goal.decreases-climb-loop-level
decreases-climb-loop-level g l = suc (rank l.to) - l.from

abbrev pub decreases-more_operands-loop-operator : goal.decreases-more_operands-loop-operator
decreases-more_operands-loop-operator g l = length l.cursor.rest

abbrev pub decreases-exprs-loop-cursor : goal.decreases-exprs-loop-cursor
decreases-exprs-loop-cursor g l = length l.cursor.rest

abbrev pub invariant-climb-loop-level : goal.invariant-climb-loop-level
invariant-climb-loop-level g l =
    (l.from ≤ suc (rank l.to))
    × (read_links l.depth (suc (rank l.to)) 0 l.start (expression_view l.fn.first) l.fn.cursor ≡ read_links l.depth (suc (rank l.to) - l.from) l.from l.start (expression_view l.value) l.cursor)
    × (length l.cursor.rest ≤ length l.fn.cursor.rest)

abbrev pub invariant-more_operands-loop-operator : goal.invariant-more_operands-loop-operator
invariant-more_operands-loop-operator g l =
    (n : ℕ) × (ps : List (Operator × Expression)) × (length l.cursor.rest < n)
    × (read_operands l.depth l.level [] l.fn.cursor ≡ many_over (at_operator l.level) (read_operator l.level ∗ read_operand l.depth l.level) n ps l.cursor)
    × (l.operators.items ≡ l.fn.operators.items ++ map (λ p. p.0) ps)
    × (map expression_view l.operands.items ≡ map expression_view l.fn.operands.items ++ map (λ p. p.1) ps)
    × (length l.cursor.rest ≤ length l.fn.cursor.rest)

abbrev pub invariant-exprs-loop-cursor : goal.invariant-exprs-loop-cursor
invariant-exprs-loop-cursor g l =
    (n : ℕ) × (length l.cursor.rest < n)
    × (read_exprs l.depth l.fn.cursor ≡ many_over (at Kind.Comma) (the Kind.Comma ▸ read_expr l.depth) n (map expression_view l.values.items) l.cursor)
    × (length l.cursor.rest < length l.fn.cursor.rest)
