use Rattle.std.proofs.Common.{◌≡◌, ◌++◌, length, ap, sym, ◌∙◌}
use Rattle.std.specs.Prelude.{Bool}
use Rattle.std.specs.Borrow.{Bor}
use Rattle.syntax_trees.specs.View.{statement_view}
use Rattle.syntax_trees.specs.declared.tree.Stmt.{Stmt}
use Rattle.explain_warnings.specs.Cycles.{cycles, cycle_at, opens_cycle}
use Rattle.explain_warnings.specs.View.{statements_in}
use Rattle.explain_warnings.specs.Ways.{in_rows, meets_first}
use Rattle.explain_warnings.proofs.Cycling.{cycles_more, cycles_all, opens_by, statements_long}
use Rattle.explain_warnings.proofs.mistakes.cycles.cycles.Goals as goal

pub loop-i-preserved : goal.loop-i-preserved
loop-i-preserved g c =
    let ss = statements_in {A = g.row.A.Denot} c.args.before.now in
    let opens : c.meets_first.result ≡ opens_cycle ss c.loop-i.i =
    c.meets_first.ensures ∙ ap (λ rows. meets_first (in_rows rows) (length rows) c.loop-i.i) c.as_slice.ensures.value
    ∙ opens_by ss c.in_ok-rows.rows.items c.close.new.rows.items c.loop-i.i c.in_ok-rows.ensures.0 c.close.ensures.led
    (c.in_ok-rows.ensures.1 ∙ sym (statements_long {A = g.row.A.Denot} c.args.before.now)) c.close.ensures.as_many in
    cycles_more (λ (s : Bor (Stmt g.row.A.Denot)). statement_view s.now) ss (c.args.name_uses.now.items ++ cycles ss)
    c.loop-i.name_uses.items c.cycle_at.new.name_uses.items c.args.before.now c.loop-i.i c.index-before-i.result
    c.loop-i.invariant c.loop-i-test.true c.index-before-i.is
    (c.in_ok-cycle_at.ensures
    ∙ ap (λ (b : Bool). c.loop-i.name_uses.items ++ cycle_at b (statement_view {A = g.row.A.Denot} c.index-before-i.result.now)) opens)

pub returns : goal.returns
returns g c =
    let ss = statements_in {A = g.row.A.Denot} c.args.before.now in
    cycles_all (λ (s : Bor (Stmt g.row.A.Denot)). statement_view s.now) ss (c.args.name_uses.now.items ++ cycles ss)
    c.loop-i.name_uses.items c.args.before.now c.loop-i.i c.loop-i.invariant c.loop-i-test.false
