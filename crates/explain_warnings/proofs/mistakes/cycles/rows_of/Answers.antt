use Rattle.std.proofs.Common.{◌≡◌, ◌≤◌, ◌+◌, [], ◌∷◌, length, ap, sym, subst, ◌∙◌, arith}
use Rattle.std.proofs.lemmas.List.{length-append}
use Rattle.syntax_trees.specs.View.{statement_view}
use Rattle.explain_warnings.specs.View.{statements_in}
use Rattle.explain_warnings.proofs.Cycling.{AreRows, row_more, rows_all, statement_at, statements_long}
use Rattle.explain_warnings.proofs.mistakes.cycles.rows_of.Goals as goal

pub loop-stmt-preserved : goal.loop-stmt-preserved
loop-stmt-preserved g c =
    let ss = statements_in {A = g.row.A.Denot} c.args.before.now in
    let here = statement_at {A = g.row.A.Denot} c.args.before.now c.loop-stmt.stmt-index c.stmt-item.result c.loop-stmt-test.true c.stmt-item.is in
    let more = row_more ss c.loop-stmt.rows.items c.loop-stmt.stmt-index c.row_of.result (statement_view {A = g.row.A.Denot} c.stmt-item.result.now)
    c.loop-stmt.invariant.are_rows c.loop-stmt.invariant.as_many here c.row_of.ensures in
    record {
      are_rows = subst (λ rows. AreRows ss rows (c.loop-stmt.stmt-index + 1)) (sym c.in_ok-push.ensures.items) more;
      as_many = ap length c.in_ok-push.ensures.items ∙ length-append c.loop-stmt.rows.items (c.row_of.result ∷ []) ∙ ap (λ n. n + 1) c.loop-stmt.invariant.as_many;
    }

pub returns : goal.returns
returns g c =
    let ended = c.loop-stmt-test.false in
    let all : c.loop-stmt.stmt-index ≡ length c.args.before.now = omega (arith, ended, c.loop-stmt.auto.stmt-index-end) in (
      rows_all (statements_in {A = g.row.A.Denot} c.args.before.now) c.loop-stmt.rows.items c.loop-stmt.stmt-index c.loop-stmt.invariant.are_rows
          (subst (λ n. n ≤ c.loop-stmt.stmt-index) (sym (statements_long {A = g.row.A.Denot} c.args.before.now)) ended),
      c.loop-stmt.invariant.as_many ∙ all,
    )
