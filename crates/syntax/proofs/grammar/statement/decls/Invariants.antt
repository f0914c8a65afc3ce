use Rattle.std.proofs.Common.{◌≡◌, ℕ, ◌<◌, length, map}
use Rattle.syntax_trees.specs.View.{declaration_of}
use Rattle.lexer.specs.declared.token.TokenKind.TheVariants as Kind
use Rattle.syntax.specs.Readers.{at, the, many_over, ◌▸◌}
use Rattle.syntax.specs.Reading.{read_decl, read_decls}
use Rattle.syntax.proofs.grammar.statement.decls.Given as goal

abbrev pub invariant-loop-cursor : goal.invariant-loop-cursor
invariant-loop-cursor g l =
    (n : ℕ) × (length l.cursor.rest < n)
    × (read_decls l.depth l.fn.cursor ≡ many_over (at Kind.Comma) (the Kind.Comma ▸ read_decl l.depth) n (map declaration_of l.items.items) l.cursor)
    × (length l.cursor.rest < length l.fn.cursor.rest)

abbrev pub decreases-loop-cursor : goal.decreases-loop-cursor
decreases-loop-cursor g l = length l.cursor.rest
