use Rattle.std.proofs.Common.{subst}
use Rattle.std.specs.Prelude.{IfOk}
use Rattle.lexer.specs.Tokens.{HasForm}
use Rattle.syntax.proofs.combining.Collected.{form_of}
use Rattle.syntax.proofs.grammar.cursor.Cursor.advance.Goals as goal

pub invariant_of-self : goal.invariant_of-self
invariant_of-self c =
    let token = c.in-Some-Ok.token in
    let form : HasForm token.kind token.text.now = subst (λ x. IfOk x (λ t. HasForm t.kind t.text.now)) c.in-Some-Ok.field-0-is c.in-Some-Ok.ensures.form in
    (c.self.invariant.1, form_of token.kind token.text.now form)
