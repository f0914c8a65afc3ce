use Rattle.std.proofs.Common.{◌≡◌, ◌-◌, ◌<◌, ◌++◌, ◌∷◌, [], true, false, suc, length, map, ap, sym, ◌∙◌, arith}
use Rattle.std.proofs.lemmas.Grind.{common_steps}
use Rattle.std.proofs.lemmas.Result.{err_from_is_err_and}
use Rattle.syntax_trees.specs.View.{word_of}
use Rattle.lexer.specs.Given.{lexeme_of}
use Rattle.lexer.specs.declared.token.TokenKind.TheVariants as Kind
use Rattle.syntax.specs.Readers.{at, the, many_over, ◌▸◌}
use Rattle.syntax.specs.Reading.{read_name, read_words}
use Rattle.syntax.proofs.expressions.Forms.{many_stop, many_more, many_fails, commas_begin, fails_on, drop_got, drop_fails, drop_none}
use Rattle.syntax.proofs.grammar.expression.words.Goals as goal

pub loop-cursor-init : goal.loop-cursor-init
unfolding read_words
loop-cursor-init g c =
    let one : map word_of c.push.new.self.items ≡ word_of c.in_ok-name.field-0 ∷ [] = grind (arith, common_steps) in
    let less = c.in_ok-name.ensures.shorter in (
      suc (length c.name.new.cursor.rest),
      omega arith,
      commas_begin read_name c.args.cursor.now c.name.new.cursor (word_of c.in_ok-name.field-0) (map word_of c.push.new.self.items) c.in_ok-name.ensures.reads one,
      omega arith,
    )

pub loop-cursor-preserved : goal.loop-cursor-preserved
loop-cursor-preserved g c =
    let inv = c.loop-cursor.invariant in
    let left = inv.1 in
    let all = inv.3 in
    let less = c.in_ok-take.ensures.shorter in
    let short = c.in_ok-name-2.ensures.shorter in
    let pos : 0 < inv.0 = omega arith in
    let holds : at Kind.Comma c.loop-cursor.cursor ≡ true = sym c.at.ensures ∙ c.loop-cursor-test.true in
    let more : map word_of c.push-in-loop-cursor.new.self.items ≡ map word_of c.loop-cursor.names.items ++ word_of c.in_ok-name-2.field-0 ∷ [] = grind (arith, common_steps) in (
      inv.0 - 1,
      omega arith,
      inv.2 ∙ many_more (at Kind.Comma) (the Kind.Comma ▸ read_name) inv.0 (map word_of c.loop-cursor.names.items) c.loop-cursor.cursor (word_of c.in_ok-name-2.field-0) c.name-in-loop-cursor.new.cursor pos holds
          (drop_got (the Kind.Comma) read_name c.loop-cursor.cursor (lexeme_of c.in_ok-take.field-0) c.take.new.self (word_of c.in_ok-name-2.field-0) c.name-in-loop-cursor.new.cursor c.in_ok-take.ensures.reads c.in_ok-name-2.ensures.reads)
          ∙ ap (λ xs. many_over (at Kind.Comma) (the Kind.Comma ▸ read_name) (inv.0 - 1) xs c.name-in-loop-cursor.new.cursor) (sym more),
      omega arith,
    )

pub returns-in_err-take-clause-reads : goal.returns-in_err-take-clause-reads
returns-in_err-take-clause-reads g c =
    let inv = c.loop-cursor.invariant in
    let left = inv.1 in
    let pos : 0 < inv.0 = omega arith in
    let holds : at Kind.Comma c.loop-cursor.cursor ≡ true = sym c.at.ensures ∙ c.loop-cursor-test.true in
    let fails = fails_on c.in_err-take.field-0.0 (the Kind.Comma c.loop-cursor.cursor) (read_words c.args.cursor.now)
    (λ stop none. inv.2 ∙ many_fails (at Kind.Comma) (the Kind.Comma ▸ read_name) inv.0 (map word_of c.loop-cursor.names.items) c.loop-cursor.cursor stop pos holds (drop_none (the Kind.Comma) read_name c.loop-cursor.cursor stop none)) c.in_err-take.ensures.reads in
    let p = err_from_is_err_and c.from_residual-in_err-take.result c.from_residual-in_err-take.ensures.1 in
    rw (p.1, p.2) fails

pub returns-in_err-name-2-clause-reads : goal.returns-in_err-name-2-clause-reads
returns-in_err-name-2-clause-reads g c =
    let inv = c.loop-cursor.invariant in
    let left = inv.1 in
    let pos : 0 < inv.0 = omega arith in
    let holds : at Kind.Comma c.loop-cursor.cursor ≡ true = sym c.at.ensures ∙ c.loop-cursor-test.true in
    let fails = fails_on c.in_err-name-2.field-0.0 (read_name c.take.new.self) (read_words c.args.cursor.now)
    (λ stop none. inv.2 ∙ many_fails (at Kind.Comma) (the Kind.Comma ▸ read_name) inv.0 (map word_of c.loop-cursor.names.items) c.loop-cursor.cursor stop pos holds (drop_fails (the Kind.Comma) read_name c.loop-cursor.cursor (lexeme_of c.in_ok-take.field-0) c.take.new.self stop c.in_ok-take.ensures.reads none)) c.in_err-name-2.ensures.reads in
    let p = err_from_is_err_and c.from_residual-in_err-name-2.result c.from_residual-in_err-name-2.ensures.1 in
    rw (p.1, p.2) fails

pub returns-clause-reads : goal.returns-clause-reads
returns-clause-reads g c =
    let inv = c.loop-cursor.invariant in
    let left = inv.1 in
    let pos : 0 < inv.0 = omega arith in
    let fails : at Kind.Comma c.loop-cursor.cursor ≡ false = sym c.at.ensures ∙ c.loop-cursor-test.false in
    inv.2 ∙ many_stop (at Kind.Comma) (the Kind.Comma ▸ read_name) inv.0 (map word_of c.loop-cursor.names.items) c.loop-cursor.cursor pos fails
