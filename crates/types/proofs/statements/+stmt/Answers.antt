use Rattle.std.proofs.Common.{rules, ◌≡◌, ◌<◌, ◌≤◌, List, map, length, get_or, ap, ap₂, subst, sym, ◌∙◌}
use Rattle.std.specs.Prelude.{vec_len, option_map}
use Rattle.std.proofs.lemmas.Result.{err_from_is_err_and}
use Rattle.std.specs.List.{sum_by}
use Rattle.syntax_trees.specs.View.{expression_view, statement_view, command_view, body_view}
use Rattle.language.specs.Tree.{choice_of}
use Rattle.language.specs.Numbered.{statement_size}
use Rattle.syntax_trees.proofs.Views.{size_of_element, block-size}
use Rattle.language.specs.Tree.{Command}
use Rattle.types.specs.Outcomes.{Gives}
use Rattle.types.specs.Statements.{commanded}
use Rattle.types.specs.Known.{seen_at, around_of}
use Rattle.types.specs.Functions.{signatures_of}
use Rattle.types.proofs.visible.Growth.{cut_back, grown_more, stated_grown}
use Rattle.types.proofs.steps.Walks.{order_done, order_refused, order_next, view-If}
use Rattle.types.proofs.statements.+stmt.Goals as goal

pub each-stmt-requires : goal.each-stmt-requires
each-stmt-requires g t c =
    let below : c.loop-inner.inner-index < length c.args.statements.now.items = subst (λ (xs : List _). c.loop-inner.inner-index < length xs) c.deref-inner-items.ensures.value c.loop-inner-test.true in
    let is : c.inner-item.result ≡ get_or c.args.statements.now.items c.loop-inner.inner-index c.inner-item.result = subst (λ (xs : List _). c.inner-item.result ≡ get_or xs c.loop-inner.inner-index c.inner-item.result) c.deref-inner-items.ensures.value c.inner-item.is in
    let small : statement_size (statement_view {A = g.row.A.Denot} c.inner-item.result) ≤ sum_by statement_size (map (statement_view {A = g.row.A.Denot}) c.args.statements.now.items) =
    size_of_element (statement_view {A = g.row.A.Denot}) statement_size c.args.statements.now.items c.loop-inner.inner-index c.inner-item.result below is in
    search rules

pub block-each-requires : goal.block-each-requires
block-each-requires g t c κs within =
    let e = block-size g.row.A.Denot c.args.body.now in
    search rules

pub block-returns-clause-same : goal.block-returns-clause-same
block-returns-clause-same g t c =
    let many : c.len-visible.result ≡ length c.args.scope.now.names.entries = c.len-visible.ensures.len in
    cut_back (λ e. seen_at e.0.items e.1) (vec_len c.args.scope.now.blocks) (vec_len c.each.new.scope.blocks) c.len-visible.result c.args.scope.now.names.entries c.each.new.scope.names.entries c.truncate.new.self.entries c.in_ok-each.ensures.grown many c.truncate.ensures.entries

pub each-returns-in_err-stmt-clause-gives : goal.each-returns-in_err-stmt-clause-gives
each-returns-in_err-stmt-clause-gives g t c =
    let p = err_from_is_err_and c.from_residual.result c.from_residual.ensures.1 in
    let below : c.loop-inner.inner-index < length c.args.statements.now.items = subst (λ (xs : List _). c.loop-inner.inner-index < length xs) c.deref-inner-items.ensures.value c.loop-inner-test.true in
    let is : c.inner-item.result ≡ get_or c.args.statements.now.items c.loop-inner.inner-index c.inner-item.result = subst (λ (xs : List _). c.inner-item.result ≡ get_or xs c.loop-inner.inner-index c.inner-item.result) c.deref-inner-items.ensures.value c.inner-item.is in
    rw (p.1, p.2) (λ m. c.loop-inner.invariant.walks ∙ order_refused _ _ _ (statement_view {A = g.row.A.Denot}) c.args.statements.now.items c.loop-inner.inner-index c.inner-item.result _ below is (c.in_err-stmt.ensures m))

pub each-loop-inner-preserved : goal.each-loop-inner-preserved
each-loop-inner-preserved g t c =
    let below : c.loop-inner.inner-index < length c.args.statements.now.items = subst (λ (xs : List _). c.loop-inner.inner-index < length xs) c.deref-inner-items.ensures.value c.loop-inner-test.true in
    let is : c.inner-item.result ≡ get_or c.args.statements.now.items c.loop-inner.inner-index c.inner-item.result = subst (λ (xs : List _). c.inner-item.result ≡ get_or xs c.loop-inner.inner-index c.inner-item.result) c.deref-inner-items.ensures.value c.inner-item.is in
    record {
      walks = c.loop-inner.invariant.walks ∙ order_next _ _ _ _ _ (statement_view {A = g.row.A.Denot}) c.args.statements.now.items c.loop-inner.inner-index c.inner-item.result below is c.in_ok-stmt.ensures;
      grown = grown_more c.loop-inner.invariant.grown (stated_grown _ _ _ _ _ _ c.in_ok-stmt.ensures);
    }

pub each-returns-clause-gives : goal.each-returns-clause-gives
each-returns-clause-gives g t c =
    let past : length c.args.statements.now.items ≤ c.loop-inner.inner-index = subst (λ (xs : List _). length xs ≤ c.loop-inner.inner-index) c.deref-inner-items.ensures.value c.loop-inner-test.false in
    c.loop-inner.invariant.walks ∙ order_done _ _ _ (statement_view {A = g.row.A.Denot}) c.args.statements.now.items c.loop-inner.inner-index past

pub command-returns-in-If : goal.command-returns-in-If
command-returns-in-If g t c =
    let is : command_view {A = g.row.A.Denot} c.args.kind.now ≡ choice_of (expression_view {A = g.row.A.Denot} c.deref-in-If.result.now) (body_view {A = g.row.A.Denot} c.deref-in-If-2.result.now) (option_map (λ it. body_view {A = g.row.A.Denot} it.value) c.in-If.other) =
    ap (command_view {A = g.row.A.Denot}) c.in-If.is ∙ view-If c.in-If.condition c.in-If.then c.in-If.other
    ∙ ap₂ (λ e b. choice_of (expression_view {A = g.row.A.Denot} e) (body_view {A = g.row.A.Denot} b) (option_map (λ it. body_view {A = g.row.A.Denot} it.value) c.in-If.other)) (sym c.deref-in-If.ensures) (sym c.deref-in-If-2.ensures) in
    subst (λ (x : Command). Gives {X = Unit {0}} (λ _. around_of c.choice.new.scope) c.choice.result c.choice.new.settled.items (commanded (signatures_of c.args.functions.now) (around_of c.args.scope.now) x c.args.settled.now.items)) (sym is) c.choice.ensures
