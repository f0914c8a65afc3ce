use Rattle.std.proofs.Common.{◌≡◌, ◌-◌, ◌<◌, ◌++◌, ◌∷◌, [], Bool, suc, length, map, ap, ap₂, sym, ◌∙◌, arith}
use Rattle.std.specs.Prelude.{not, option_map}
use Rattle.std.proofs.lemmas.Grind.{common_steps}
use Rattle.std.proofs.lemmas.Result.{err_from_is_err_and}
use Rattle.lexer.specs.Given.{lexeme_of}
use Rattle.language.specs.Tree.{body, statements_of, loop, waits}
use Rattle.syntax_trees.specs.View.{word_of, words_view, expression_view, statement_view, body_view, over_of}
use Rattle.language.specs.Tree.{choice_of}
use Rattle.language.specs.Rules.{Place}
use Rattle.lexer.specs.declared.token.TokenKind.TheVariants as Kind
use Rattle.syntax.specs.Answers.{branch_view}
use Rattle.syntax.specs.Readers.{got, at, the, ◌▸◌, maybe, many_over}
use Rattle.syntax.specs.Reading.{read_stmt, read_stmts, read_command, read_else, read_if}
use Rattle.syntax.proofs.expressions.Forms.{many_stop, many_more, many_fails, fails_on}
use Rattle.syntax.proofs.statements.Commands.{else_if, else_if_fails, stmts_begin, if_reads, if_branch_fails, foreach_reads, wait_reads}
use Rattle.syntax.proofs.statements.Statements.{command_same}
use Rattle.syntax.proofs.combining.Views.{does_view, view-If, view-Foreach, view-Wait}
use Rattle.syntax.proofs.grammar.statement.+stmt.Goals as goal

pub stmts-loop-statements-init : goal.stmts-loop-statements-init
stmts-loop-statements-init g t c =
    let none = ap (map (statement_view {A = g.row.A.Denot})) c.in_ok-statements.ensures.items in (
      suc (length c.args.cursor.now.rest),
      omega arith,
      stmts_begin c.args.depth c.args.cursor.now (map (statement_view {A = g.row.A.Denot}) c.in_ok-statements.statements.items) none,
      omega arith,
    )

pub stmts-loop-statements-preserved : goal.stmts-loop-statements-preserved
stmts-loop-statements-preserved g t c =
    let inv = c.loop-statements.invariant in
    let left = inv.1 in
    let all = inv.3 in
    let short = c.in_ok-statement.ensures.shorter in
    let some : 0 < inv.0 = omega arith in
    let test : Place → Bool = λ s. not (at Kind.CloseCurly s) in
    let old = map (statement_view {A = g.row.A.Denot}) c.loop-statements.statements.items in
    let more : map (statement_view {A = g.row.A.Denot}) c.push.new.self.items ≡ map (statement_view {A = g.row.A.Denot}) c.loop-statements.statements.items ++ statement_view c.in_ok-statement.field-0 ∷ [] = grind (arith, common_steps) in (
      inv.0 - 1,
      omega arith,
      inv.2 ∙ many_more test (read_stmt c.args.depth) inv.0 old c.loop-statements.cursor (statement_view c.in_ok-statement.field-0) c.statement.new.cursor some
          (ap not (sym c.at.ensures ∙ c.loop-statements-test.true)) (sym (command_same c.args.depth c.loop-statements.cursor) ∙ c.in_ok-statement.ensures.reads)
          ∙ ap (λ xs. many_over test (read_stmt c.args.depth) (inv.0 - 1) xs c.statement.new.cursor) (sym more),
      omega arith,
    )

pub stmts-returns-in_err-statement-clause-reads : goal.stmts-returns-in_err-statement-clause-reads
stmts-returns-in_err-statement-clause-reads g t c =
    let inv = c.loop-statements.invariant in
    let left = inv.1 in
    let some : 0 < inv.0 = omega arith in
    let fails = fails_on c.in_err-statement.field-0.0 (read_command c.args.depth c.loop-statements.cursor) (read_stmts c.args.depth c.args.cursor.now)
    (λ stop none. inv.2 ∙ many_fails (λ s. not (at Kind.CloseCurly s)) (read_stmt c.args.depth) inv.0 (map (statement_view {A = g.row.A.Denot}) c.loop-statements.statements.items) c.loop-statements.cursor stop some
    (ap not (sym c.at.ensures ∙ c.loop-statements-test.true)) (sym (command_same c.args.depth c.loop-statements.cursor) ∙ none)) c.in_err-statement.ensures.reads in
    let p = err_from_is_err_and c.from_residual-in_err-statement.result c.from_residual-in_err-statement.ensures.1 in
    rw (p.1, p.2) fails

pub stmts-returns-clause-reads : goal.stmts-returns-clause-reads
stmts-returns-clause-reads g t c =
    let inv = c.loop-statements.invariant in
    let left = inv.1 in
    let some : 0 < inv.0 = omega arith in
    inv.2 ∙ many_stop (λ s. not (at Kind.CloseCurly s)) (read_stmt c.args.depth) inv.0 (map (statement_view {A = g.row.A.Denot}) c.loop-statements.statements.items) c.loop-statements.cursor some
    (ap not (sym c.at.ensures ∙ c.loop-statements-test.false))

pub other-returns-clause-reads : goal.other-returns-clause-reads
other-returns-clause-reads g t c =
    let some : 0 < c.args.depth = omega arith in
    let one : map (statement_view {A = g.row.A.Denot}) c.push.new.self.items ≡ statement_view c.in_ok-statement.field-0 ∷ [] = grind (arith, common_steps) in
    let tree = c.block-2.ensures ∙ ap₂ (λ p ss. body p (statements_of ss)) (ap (λ p. p.from) c.first-from.ensures) one in
    else_if c.args.depth c.args.cursor.now (statement_view c.in_ok-statement.field-0) c.statement.new.cursor some (sym c.at.ensures ∙ c.if-not-at.false) c.in_ok-statement.ensures.reads
    ∙ ap (λ b. got b c.statement.new.cursor) (sym tree)

pub other-returns-in_err-statement-clause-reads : goal.other-returns-in_err-statement-clause-reads
other-returns-in_err-statement-clause-reads g t c =
    let some : 0 < c.args.depth = omega arith in
    let fails = fails_on c.in_err-statement.field-0.0 (read_command (c.args.depth - 1) c.args.cursor.now) (read_else c.args.depth c.args.cursor.now)
    (else_if_fails c.args.depth c.args.cursor.now some (sym c.at.ensures ∙ c.if-not-at.false)) c.in_err-statement.ensures.reads in
    let p = err_from_is_err_and c.from_residual-in_err-statement.result c.from_residual-in_err-statement.ensures.1 in
    rw (p.1, p.2) fails

pub choice-returns-in_err-other-clause-reads : goal.choice-returns-in_err-other-clause-reads
choice-returns-in_err-other-clause-reads g t c =
    let fails = fails_on c.in_err-other.field-0.0 (maybe (at Kind.Else) (the Kind.Else ▸ read_else c.args.depth) c.block.new.cursor) (read_if c.args.depth c.args.cursor.now)
    (if_branch_fails c.args.depth c.args.cursor.now (lexeme_of c.in_ok-take.field-0) c.take.new.self (expression_view c.in_ok-test.field-0) c.test.new.cursor (body_view c.in_ok-block.field-0) c.block.new.cursor
    c.in_ok-take.ensures.reads c.in_ok-test.ensures.reads c.in_ok-block.ensures.reads) c.in_err-other.ensures.reads in
    let p = err_from_is_err_and c.from_residual-in_err-other.result c.from_residual-in_err-other.ensures.1 in
    rw (p.1, p.2) fails

pub choice-returns-clause-reads : goal.choice-returns-clause-reads
choice-returns-clause-reads g t c =
    let test : c.in_ok-condition.condition.value ≡ c.in_ok-test.field-0 = grind (arith, common_steps) in
    let then : c.in_ok-then.then.value ≡ c.in_ok-block.field-0 = grind (arith, common_steps) in
    if_reads c.args.depth c.args.cursor.now (lexeme_of c.in_ok-take.field-0) c.take.new.self (expression_view c.in_ok-test.field-0) c.test.new.cursor (body_view c.in_ok-block.field-0) c.block.new.cursor
    (branch_view c.in_ok-other.other) c.else_branch.new.cursor c.in_ok-take.ensures.reads c.in_ok-test.ensures.reads c.in_ok-block.ensures.reads c.in_ok-other.ensures.reads
    ∙ ap (λ e. got e c.else_branch.new.cursor) (sym (does_view c.args.cursor.now c.else_branch.new.cursor c.first-first.result c.before-2.result _ c.stmt.result
    (choice_of (expression_view c.in_ok-test.field-0) (body_view c.in_ok-block.field-0) (branch_view c.in_ok-other.other))
    c.first-first.ensures c.before-2.ensures c.stmt.ensures (view-If c.in_ok-condition.condition c.in_ok-then.then c.in_ok-other.other
    ∙ ap₂ (λ e b. choice_of (expression_view e) (body_view b) (branch_view c.in_ok-other.other)) test then)))

pub foreach-returns-clause-reads : goal.foreach-returns-clause-reads
foreach-returns-clause-reads g t c =
    let header : c.in_ok-header.header.value ≡ record { value = c.in_ok-value.value; key = c.in_ok-key.key; source = c.in_ok-source.source } = grind (arith, common_steps) in
    let boxed : c.in_ok-body.body.value ≡ c.in_ok-block.field-0 = grind (arith, common_steps) in
    foreach_reads c.args.depth c.args.cursor.now (lexeme_of c.in_ok-take.field-0) c.take.new.self (word_of c.in_ok-value.value) c.name.new.cursor (option_map word_of c.in_ok-key.key) c.loop_key.new.cursor
    (lexeme_of c.in_ok-take-2.field-0) c.take-2.new.self (over_of c.in_ok-source.source) c.source.new.cursor (body_view c.in_ok-block.field-0) c.block.new.cursor
    c.in_ok-take.ensures.reads c.in_ok-value.ensures.reads c.in_ok-key.ensures.reads c.in_ok-take-2.ensures.reads c.in_ok-source.ensures.reads c.in_ok-block.ensures.reads
    ∙ ap (λ e. got e c.block.new.cursor) (sym (does_view c.args.cursor.now c.block.new.cursor c.first-first.result c.before-2.result _ c.stmt.result
    (loop (word_of c.in_ok-value.value) (option_map word_of c.in_ok-key.key) (over_of c.in_ok-source.source) (body_view c.in_ok-block.field-0))
    c.first-first.ensures c.before-2.ensures c.stmt.ensures (view-Foreach c.in_ok-header.header c.in_ok-body.body
    ∙ ap₂ (λ h b. loop (word_of h.value) (option_map word_of h.key) (over_of h.source) (body_view b)) header boxed)))

pub foreach-returns-clause-shorter : goal.foreach-returns-clause-shorter
foreach-returns-clause-shorter g t c =
    let a = c.in_ok-take.ensures.shorter in
    let b = c.in_ok-value.ensures.shorter in
    let d = c.in_ok-key.ensures.shorter in
    let e = c.in_ok-take-2.ensures.shorter in
    let f = c.in_ok-source.ensures.shorter in
    let h = c.in_ok-block.ensures.shorter in
    omega arith

pub wait-returns-clause-reads : goal.wait-returns-clause-reads
wait-returns-clause-reads g t c =
    let boxed : c.in_ok-body.body.value ≡ c.in_ok-block.field-0 = grind (arith, common_steps) in
    wait_reads c.args.depth c.args.cursor.now (lexeme_of c.in_ok-take.field-0) c.take.new.self (words_view c.in_ok-waited.waited) c.names.new.cursor (body_view c.in_ok-block.field-0) c.block.new.cursor
    c.in_ok-take.ensures.reads c.in_ok-waited.ensures.reads c.in_ok-block.ensures.reads
    ∙ ap (λ e. got e c.block.new.cursor) (sym (does_view c.args.cursor.now c.block.new.cursor c.first-first.result c.before-2.result _ c.stmt.result
    (waits (words_view c.in_ok-waited.waited) (body_view c.in_ok-block.field-0))
    c.first-first.ensures c.before-2.ensures c.stmt.ensures (view-Wait c.in_ok-waited.waited c.in_ok-body.body
    ∙ ap (λ b. waits (words_view c.in_ok-waited.waited) (body_view b)) boxed)))
