use Rattle.std.proofs.Common.{◌≡◌, ◌+◌, ◌-◌, ◌<◌, ◌++◌, ◌∷◌, [], true, false, suc, length, map, ap, sym, ◌∙◌, subst, arith}
use Rattle.std.proofs.lemmas.Grind.{common_steps}
use Rattle.std.proofs.lemmas.Result.{err_from_is_err_and}
use Rattle.language.specs.Tree.{prefixed, call, chain, expressions_of}
use Rattle.syntax_trees.specs.View.{expression_view, expressions_view, word_of}
use Rattle.lexer.specs.Given.{lexeme_of}
use Rattle.lexer.specs.declared.token.TokenKind.TheVariants as Kind
use Rattle.syntax.specs.Answers.{Gives}
use Rattle.syntax.specs.Readers.{got, at, the, many_over, ◌▸◌}
use Rattle.std.proofs.Common.{append_assoc}
use Rattle.std.proofs.lemmas.List.{append-nil, map-append}
use Rattle.syntax.specs.Readers.{◌∗◌}
use Rattle.syntax.specs.Reading.{at_operator, read_operator, read_operand, read_operands, read_chain, rank, read_form, read_link, read_links, read_expr, read_exprs}
use Rattle.syntax.proofs.expressions.Forms.{many_stop, many_more, many_fails, commas_begin, fails_on, drop_got, drop_fails, drop_none, both_got, operands_begin, both_fails}
use Rattle.syntax.proofs.expressions.Climbing.{links_all, links_step, links_stop, links_end, level_above, level_below, unary_goes_on, unary_stops}
use Rattle.syntax.proofs.expressions.Chains.{link_got, link_fails, operand_one, no_operand, prefixed_got, application_got}
use Rattle.syntax_trees.proofs.Views.{view-Call, view-Chain, view-Prefixed}
use Rattle.syntax.proofs.combining.Views.{spans_view, chain_view}
use Rattle.syntax.proofs.grammar.expression.+expr.Goals as goal

pub exprs-loop-cursor-init : goal.exprs-loop-cursor-init
unfolding read_exprs
exprs-loop-cursor-init g t c =
    let one : map (expression_view {A = g.row.A.Denot}) c.push.new.self.items ≡ expression_view c.in_ok-expr.field-0 ∷ [] = grind (arith, common_steps) in
    let less = c.in_ok-expr.ensures.shorter in (
      suc (length c.expr.new.cursor.rest),
      omega arith,
      commas_begin (read_expr c.args.depth) c.args.cursor.now c.expr.new.cursor (expression_view c.in_ok-expr.field-0) (map (expression_view {A = g.row.A.Denot}) c.push.new.self.items) c.in_ok-expr.ensures.reads one,
      omega arith,
    )

pub exprs-loop-cursor-preserved : goal.exprs-loop-cursor-preserved
exprs-loop-cursor-preserved g t c =
    let inv = c.loop-cursor.invariant in
    let left = inv.1 in
    let all = inv.3 in
    let less = c.in_ok-take.ensures.shorter in
    let short = c.in_ok-expr-2.ensures.shorter in
    let pos : 0 < inv.0 = omega arith in
    let holds : at Kind.Comma c.loop-cursor.cursor ≡ true = sym c.at.ensures ∙ c.loop-cursor-test.true in
    let more : map (expression_view {A = g.row.A.Denot}) c.push-in-loop-cursor.new.self.items ≡ map (expression_view {A = g.row.A.Denot}) c.loop-cursor.values.items ++ expression_view c.in_ok-expr-2.field-0 ∷ [] = grind (arith, common_steps) in (
      inv.0 - 1,
      omega arith,
      inv.2 ∙ many_more (at Kind.Comma) (the Kind.Comma ▸ read_expr c.args.depth) inv.0 (map (expression_view {A = g.row.A.Denot}) c.loop-cursor.values.items) c.loop-cursor.cursor (expression_view c.in_ok-expr-2.field-0) c.expr-in-loop-cursor.new.cursor pos holds
          (drop_got (the Kind.Comma) (read_expr c.args.depth) c.loop-cursor.cursor (lexeme_of c.in_ok-take.field-0) c.take.new.self (expression_view c.in_ok-expr-2.field-0) c.expr-in-loop-cursor.new.cursor c.in_ok-take.ensures.reads c.in_ok-expr-2.ensures.reads)
          ∙ ap (λ xs. many_over (at Kind.Comma) (the Kind.Comma ▸ read_expr c.args.depth) (inv.0 - 1) xs c.expr-in-loop-cursor.new.cursor) (sym more),
      omega arith,
    )

pub exprs-returns-in_err-take-clause-reads : goal.exprs-returns-in_err-take-clause-reads
exprs-returns-in_err-take-clause-reads g t c =
    let inv = c.loop-cursor.invariant in
    let left = inv.1 in
    let pos : 0 < inv.0 = omega arith in
    let holds : at Kind.Comma c.loop-cursor.cursor ≡ true = sym c.at.ensures ∙ c.loop-cursor-test.true in
    let fails = fails_on c.in_err-take.field-0.0 (the Kind.Comma c.loop-cursor.cursor) (read_exprs c.args.depth c.args.cursor.now)
    (λ stop none. inv.2 ∙ many_fails (at Kind.Comma) (the Kind.Comma ▸ read_expr c.args.depth) inv.0 (map (expression_view {A = g.row.A.Denot}) c.loop-cursor.values.items) c.loop-cursor.cursor stop pos holds (drop_none (the Kind.Comma) (read_expr c.args.depth) c.loop-cursor.cursor stop none)) c.in_err-take.ensures.reads in
    let p = err_from_is_err_and c.from_residual-in_err-take.result c.from_residual-in_err-take.ensures.1 in
    rw (p.1, p.2) fails

pub exprs-returns-in_err-expr-2-clause-reads : goal.exprs-returns-in_err-expr-2-clause-reads
exprs-returns-in_err-expr-2-clause-reads g t c =
    let inv = c.loop-cursor.invariant in
    let left = inv.1 in
    let pos : 0 < inv.0 = omega arith in
    let holds : at Kind.Comma c.loop-cursor.cursor ≡ true = sym c.at.ensures ∙ c.loop-cursor-test.true in
    let fails = fails_on c.in_err-expr-2.field-0.0 (read_expr c.args.depth c.take.new.self) (read_exprs c.args.depth c.args.cursor.now)
    (λ stop none. inv.2 ∙ many_fails (at Kind.Comma) (the Kind.Comma ▸ read_expr c.args.depth) inv.0 (map (expression_view {A = g.row.A.Denot}) c.loop-cursor.values.items) c.loop-cursor.cursor stop pos holds (drop_fails (the Kind.Comma) (read_expr c.args.depth) c.loop-cursor.cursor (lexeme_of c.in_ok-take.field-0) c.take.new.self stop c.in_ok-take.ensures.reads none)) c.in_err-expr-2.ensures.reads in
    let p = err_from_is_err_and c.from_residual-in_err-expr-2.result c.from_residual-in_err-expr-2.ensures.1 in
    rw (p.1, p.2) fails

pub exprs-returns-clause-reads : goal.exprs-returns-clause-reads
exprs-returns-clause-reads g t c =
    let inv = c.loop-cursor.invariant in
    let left = inv.1 in
    let pos : 0 < inv.0 = omega arith in
    let fails : at Kind.Comma c.loop-cursor.cursor ≡ false = sym c.at.ensures ∙ c.loop-cursor-test.false in
    inv.2 ∙ many_stop (at Kind.Comma) (the Kind.Comma ▸ read_expr c.args.depth) inv.0 (map (expression_view {A = g.row.A.Denot}) c.loop-cursor.values.items) c.loop-cursor.cursor pos fails

pub more_operands-loop-operator-init : goal.more_operands-loop-operator-init
unfolding read_operands
more_operands-loop-operator-init g t c = (
  suc (length c.args.cursor.now.rest),
  [],
  omega arith,
  operands_begin c.args.level (read_operand c.args.depth c.args.level) c.args.cursor.now c.requires,
  sym (append-nil c.args.operators.now.items),
  sym (append-nil (map (expression_view {A = g.row.A.Denot}) c.args.operands.now.items)),
  omega arith,
)

pub more_operands-loop-operator-preserved : goal.more_operands-loop-operator-preserved
more_operands-loop-operator-preserved g t c =
    let inv = c.loop-operator.invariant in
    let left = inv.2 in
    let all = inv.6 in
    let less = c.in-Some.ensures.shorter in
    let short = c.in_ok-operand.ensures.shorter in
    let pos : 0 < inv.0 = omega arith in
    let o = c.in-Some.operator in
    let e = expression_view c.in_ok-operand.field-0 in
    let signs : c.push.new.self.items ≡ c.loop-operator.operators.items ++ c.in-Some.operator ∷ [] = grind (arith, common_steps) in
    let trees : map (expression_view {A = g.row.A.Denot}) c.push-in-Some.new.self.items ≡ map (expression_view {A = g.row.A.Denot}) c.loop-operator.operands.items ++ expression_view c.in_ok-operand.field-0 ∷ [] = grind (arith, common_steps) in (
      inv.0 - 1,
      inv.1 ++ (o, e) ∷ [],
      omega arith,
      inv.3 ∙ many_more (at_operator c.args.level) (read_operator c.args.level ∗ read_operand c.args.depth c.args.level) inv.0 inv.1 c.loop-operator.cursor (o, e) c.operand.new.cursor pos c.in-Some.ensures.reads.0
          (both_got (read_operator c.args.level) (read_operand c.args.depth c.args.level) c.loop-operator.cursor o c.take_operator.new.self e c.operand.new.cursor c.in-Some.ensures.reads.1 c.in_ok-operand.ensures.reads),
      signs ∙ ap (λ xs. xs ++ o ∷ []) inv.4 ∙ append_assoc c.args.operators.now.items (map (λ p. p.0) inv.1) (o ∷ []) ∙ ap (λ r. c.args.operators.now.items ++ r) (sym (map-append (λ p. p.0) inv.1 ((o, e) ∷ []))),
      trees ∙ ap (λ xs. xs ++ e ∷ []) inv.5 ∙ append_assoc (map (expression_view {A = g.row.A.Denot}) c.args.operands.now.items) (map (λ p. p.1) inv.1) (e ∷ []) ∙ ap (λ r. map (expression_view {A = g.row.A.Denot}) c.args.operands.now.items ++ r) (sym (map-append (λ p. p.1) inv.1 ((o, e) ∷ []))),
      omega arith,
    )

pub more_operands-returns-clause-reads : goal.more_operands-returns-clause-reads
more_operands-returns-clause-reads g t c =
    let inv = c.loop-operator.invariant in
    let left = inv.2 in
    let pos : 0 < inv.0 = omega arith in (
      inv.1,
      inv.3 ∙ many_stop (at_operator c.args.level) (read_operator c.args.level ∗ read_operand c.args.depth c.args.level) inv.0 inv.1 c.loop-operator.cursor pos c.in_default.ensures.reads.0 ∙ ap (got inv.1) (sym c.in_default.ensures.reads.1),
      inv.4,
      inv.5,
    )

pub more_operands-returns-in_err-operand-clause-reads : goal.more_operands-returns-in_err-operand-clause-reads
more_operands-returns-in_err-operand-clause-reads g t c =
    let inv = c.loop-operator.invariant in
    let left = inv.2 in
    let pos : 0 < inv.0 = omega arith in
    let fails = fails_on c.in_err-operand.field-0.0 (read_operand c.args.depth c.args.level c.take_operator.new.self) (read_operands c.args.depth c.args.level [] c.args.cursor.now)
    (λ stop none. inv.3 ∙ many_fails (at_operator c.args.level) (read_operator c.args.level ∗ read_operand c.args.depth c.args.level) inv.0 inv.1 c.loop-operator.cursor stop pos c.in-Some.ensures.reads.0
    (both_fails (read_operator c.args.level) (read_operand c.args.depth c.args.level) c.loop-operator.cursor c.in-Some.operator c.take_operator.new.self stop c.in-Some.ensures.reads.1 none)) c.in_err-operand.ensures.reads in
    let p = err_from_is_err_and c.from_residual-in_err-operand.result c.from_residual-in_err-operand.ensures.1 in
    rw (p.1, p.2) fails

pub one_operand-returns-in_ok-push-2-clause-reads : goal.one_operand-returns-in_ok-push-2-clause-reads
one_operand-returns-in_ok-push-2-clause-reads g t c =
    let signs : c.push.new.self.items ≡ c.args.operators.now.items ++ c.in-Some.operator ∷ [] = grind (arith, common_steps) in
    let trees : map (expression_view {A = g.row.A.Denot}) c.push-in-Some.new.self.items ≡ map (expression_view {A = g.row.A.Denot}) c.args.operands.now.items ++ expression_view c.in_ok-operand.field-0 ∷ [] = grind (arith, common_steps) in (
      (c.in-Some.operator, expression_view c.in_ok-operand.field-0) ∷ [],
      operand_one c.args.depth c.args.level c.args.cursor.now c.in-Some.operator c.take_operator.new.self (expression_view c.in_ok-operand.field-0) c.operand.new.cursor c.requires c.in-Some.ensures.reads.0 c.in-Some.ensures.reads.1 c.in_ok-operand.ensures.reads,
      signs,
      trees,
    )

pub one_operand-returns-in_default-clause-reads : goal.one_operand-returns-in_default-clause-reads
one_operand-returns-in_default-clause-reads g t c = (
  [],
  no_operand c.args.depth c.args.level c.args.cursor.now c.in_default.ensures.reads.0 ∙ ap (got []) (sym c.in_default.ensures.reads.1),
  sym (append-nil c.args.operators.now.items),
  sym (append-nil (map (expression_view {A = g.row.A.Denot}) c.args.operands.now.items)),
)

pub chain-returns-in-Ok-clause-reads : goal.chain-returns-in-Ok-clause-reads
chain-returns-in-Ok-clause-reads g t c =
    let reads = subst (λ r. Gives (expression_view {A = g.row.A.Denot}) r c.unary-first.new.cursor (read_form c.args.depth c.args.cursor.now)) c.in-Ok.is c.unary-first.ensures.reads in
    unary_goes_on (expression_view {A = g.row.A.Denot}) c.climb.result c.args.depth c.args.level c.args.cursor.now c.unary-first.new.cursor c.climb.new.cursor (expression_view c.in-Ok.value) c.first-start.result
    reads c.first-start.ensures c.climb.ensures.reads

pub chain-returns-in-Err-clause-reads : goal.chain-returns-in-Err-clause-reads
chain-returns-in-Err-clause-reads g t c =
    let reads = subst (λ r. Gives (expression_view {A = g.row.A.Denot}) r c.unary-first.new.cursor (read_form c.args.depth c.args.cursor.now)) c.in-Err.is c.unary-first.ensures.reads in
    fails_on c.in-Err.stop (read_form c.args.depth c.args.cursor.now) (read_chain c.args.depth c.args.level c.args.cursor.now) (unary_stops c.args.depth c.args.level c.args.cursor.now) reads

pub climb-loop-level-init : goal.climb-loop-level-init
climb-loop-level-init g t c = (
  omega arith,
  links_all c.args.depth c.args.to c.args.start (expression_view c.args.first) c.args.cursor.now,
  omega arith,
)

pub climb-loop-level-preserved : goal.climb-loop-level-preserved
climb-loop-level-preserved g t c =
    let inv = c.loop-level.invariant in
    let some = sym c.level_at.ensures ∙ c.in-Some.is in
    let least = level_above c.loop-level.from c.args.to c.in-Some.level c.loop-level.cursor some in
    let most = level_below c.loop-level.from c.args.to c.in-Some.level c.loop-level.cursor some in
    let less = c.in_ok-value.ensures.shorter in
    let short = inv.2 in
    let is = c.rank-from.ensures.rank in
    let next : suc (rank c.in-Some.level) ≡ c.rank-from.result + 1 = omega arith in (
      omega arith,
      inv.1 ∙ links_step c.args.depth c.loop-level.from c.args.to c.in-Some.level c.args.start (expression_view c.loop-level.value) (expression_view c.in_ok-value.value) c.loop-level.cursor c.link.new.cursor some c.in_ok-value.ensures.reads
          ∙ ap (λ n. read_links c.args.depth (suc (rank c.args.to) - n) n c.args.start (expression_view c.in_ok-value.value) c.link.new.cursor) next,
      omega arith,
    )

pub climb-returns-clause-reads : goal.climb-returns-clause-reads
climb-returns-clause-reads g t c =
    let inv = c.loop-level.invariant in
    inv.1 ∙ links_end c.args.depth c.loop-level.from c.args.to c.args.start (expression_view c.loop-level.value) c.loop-level.cursor inv.0 (sym c.level_at.ensures ∙ c.in_default.is)

pub climb-returns-in_err-value-clause-reads : goal.climb-returns-in_err-value-clause-reads
climb-returns-in_err-value-clause-reads g t c =
    let inv = c.loop-level.invariant in
    let some = sym c.level_at.ensures ∙ c.in-Some.is in
    let fails = fails_on c.in_err-value.field-0.0 (read_link c.args.depth c.in-Some.level c.args.start (expression_view c.loop-level.value) c.loop-level.cursor)
    (read_links c.args.depth (suc (rank c.args.to)) 0 c.args.start (expression_view c.args.first) c.args.cursor.now)
    (λ stop none. inv.1 ∙ links_stop c.args.depth c.loop-level.from c.args.to c.in-Some.level c.args.start (expression_view c.loop-level.value) c.loop-level.cursor stop some none) c.in_err-value.ensures.reads in
    let p = err_from_is_err_and c.from_residual.result c.from_residual.ensures.1 in
    rw (p.1, p.2) fails

pub link-returns-in_err-rest_of_chain-clause-reads : goal.link-returns-in_err-rest_of_chain-clause-reads
link-returns-in_err-rest_of_chain-clause-reads g t c =
    let fails = fails_on c.in_err-rest_of_chain.field-0.0 (read_operands c.args.depth c.args.level [] c.args.cursor.now) (read_link c.args.depth c.args.level c.args.start (expression_view c.args.first) c.args.cursor.now)
    (link_fails c.args.depth c.args.level c.args.start (expression_view c.args.first) c.args.cursor.now) c.in_err-rest_of_chain.ensures.reads in
    let p = err_from_is_err_and c.from_residual-in_err-rest_of_chain.result c.from_residual-in_err-rest_of_chain.ensures.1 in
    rw (p.1, p.2) fails

pub link-returns-clause-reads : goal.link-returns-clause-reads
link-returns-clause-reads g t c =
    let reads = c.in_ok-rest_of_chain.ensures.reads in
    let operators = c.rest_of_chain.new.operators in
    let operands = c.rest_of_chain.new.operands in
    link_got c.args.depth c.args.level c.args.start (expression_view c.args.first) c.args.cursor.now reads.0 c.rest_of_chain.new.cursor
    operators.items (map (expression_view {A = g.row.A.Denot}) operands.items) c.requires reads.1
    (reads.2 ∙ ap (λ xs. xs ++ map (λ q. q.0) reads.0) c.in_ok-operators.ensures.items) (reads.3 ∙ ap (λ xs. xs ++ map (λ q. q.1) reads.0) c.in_ok-operands.ensures)
    ∙ ap (λ e. got e c.rest_of_chain.new.cursor) (sym (chain_view c.args.start c.rest_of_chain.new.cursor c.before-2.result _ c.expr.result
    (chain operators.items (expressions_of (map (expression_view {A = g.row.A.Denot}) operands.items)))
    c.before-2.ensures c.expr.ensures (view-Chain operators operands)))

pub prefixed-returns-clause-reads : goal.prefixed-returns-clause-reads
prefixed-returns-clause-reads g t c =
    let boxed : c.in_ok-operand.operand.value ≡ c.in_ok-unary.field-0 = grind (arith, common_steps) in
    prefixed_got c.args.kind c.args.prefix c.args.depth c.args.cursor.now c.in_ok-inner.inner c.open.new.self (expression_view c.in_ok-unary.field-0) c.unary.new.cursor c.in_ok-inner.ensures.reads c.in_ok-unary.ensures.reads
    ∙ ap (λ e. got e c.unary.new.cursor) (sym (spans_view c.args.cursor.now c.unary.new.cursor c.first-start.result c.before-2.result _ c.expr.result
    (prefixed c.args.prefix (expression_view c.in_ok-unary.field-0))
    c.first-start.ensures c.before-2.ensures c.expr.ensures (view-Prefixed c.args.prefix c.in_ok-operand.operand ∙ ap (λ e. prefixed c.args.prefix (expression_view e)) boxed)))

pub application-returns-clause-reads : goal.application-returns-clause-reads
application-returns-clause-reads g t c =
    let boxed : c.in_ok-function.function.value ≡ c.in_ok-name.field-0 = grind (arith, common_steps) in
    application_got c.args.depth c.args.cursor.now (word_of c.in_ok-name.field-0) c.name.new.cursor (expressions_view c.in_ok-values.values) c.arguments.new.cursor c.in_ok-name.ensures.reads c.in_ok-values.ensures.reads
    ∙ ap (λ e. got e c.arguments.new.cursor) (sym (spans_view c.args.cursor.now c.arguments.new.cursor c.first-start.result c.before-2.result _ c.expr.result
    (call (word_of c.in_ok-name.field-0) (expressions_of (expressions_view c.in_ok-values.values)))
    c.first-start.ensures c.before-2.ensures c.expr.ensures (view-Call c.in_ok-function.function c.in_ok-values.values ∙ ap (λ w. call (word_of w) (expressions_of (expressions_view c.in_ok-values.values))) boxed)))
