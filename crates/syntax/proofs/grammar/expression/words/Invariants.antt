use Rattle.std.proofs.Common.{◌≡◌, ℕ, ◌<◌, length, map}
use Rattle.syntax_trees.specs.View.{word_of}
use Rattle.lexer.specs.declared.token.TokenKind.TheVariants as Kind
use Rattle.syntax.specs.Readers.{at, the, many_over, ◌▸◌}
use Rattle.syntax.specs.Reading.{read_name, read_words}
use Rattle.syntax.proofs.grammar.expression.words.Given as goal

abbrev pub invariant-loop-cursor : goal.invariant-loop-cursor
invariant-loop-cursor g l =
    (n : ℕ) × (length l.cursor.rest < n)
    × (read_words l.fn.cursor ≡ many_over (at Kind.Comma) (the Kind.Comma ▸ read_name) n (map word_of l.names.items) l.cursor)
    × (length l.cursor.rest < length l.fn.cursor.rest)

abbrev pub decreases-loop-cursor : goal.decreases-loop-cursor
decreases-loop-cursor g l = length l.cursor.rest
