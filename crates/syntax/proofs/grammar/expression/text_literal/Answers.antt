use Rattle.std.proofs.Common.{ap, sym, ◌∙◌}
use Rattle.lexer.specs.Given.{lexeme_of}
use Rattle.language.specs.Tree.{text}
use Rattle.lexer.specs.declared.token.TokenKind.TheVariants as Kind
use Rattle.language.specs.Grammar.{spelled}
use Rattle.syntax.specs.Readers.{got}
use Rattle.syntax.proofs.expressions.Forms.{literal_got}
use Rattle.syntax.proofs.spellings.Strings.{spelled_as}
use Rattle.syntax.proofs.combining.Views.{view-Text, spans_view}
use Rattle.syntax.proofs.grammar.expression.text_literal.Goals as goal

pub returns-clause-reads : goal.returns-clause-reads
returns-clause-reads g c =
    let same = spelled_as c.in_ok-token.token.text.now c.in_ok-content.content.items c.in_ok-content.ensures in
    literal_got Kind.Text (λ t. text (spelled t)) c.args.cursor.now (lexeme_of c.in_ok-token.token) c.take.new.self c.in_ok-token.ensures.reads
    ∙ ap (λ e. got e c.take.new.self) (sym (spans_view c.args.cursor.now c.take.new.self c.first-start.result c.before-2.result _ c.expr.result (text (spelled (lexeme_of c.in_ok-token.token)))
    c.first-start.ensures c.before-2.ensures c.expr.ensures (view-Text c.in_ok-content.content ∙ ap text (sym same))))
