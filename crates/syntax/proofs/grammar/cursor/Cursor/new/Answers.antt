use Rattle.std.proofs.Common.{ap, ◌∙◌}
use Rattle.syntax.specs.Held.{led, tokens_of}
use Rattle.syntax.specs.Readers.{start}
use Rattle.syntax.proofs.combining.Collected.{begins}
use Rattle.syntax.proofs.grammar.cursor.Cursor.new.Goals as goal

pub returns : goal.returns
returns c =
    begins c.args.source.now c.new-lexer.result (start (led c.following-next.result (led c.following-behind.result (tokens_of c.following-behind.new.lexer)))) c.new-lexer.ensures.tokens
    (ap start (ap (led c.following-next.result) c.following-behind.ensures.tokens ∙ c.following-next.ensures.tokens))
