use Rattle.std.proofs.Common.{arith, take, subst, sym, List}
use Rattle.std.proofs.lemmas.Grind.{common_steps}
use Rattle.task_code.specs.Code.{Need}
use Rattle.flow.specs.View.{expr_view, exprs_view}
use Rattle.code_rules.specs.CodeNames.{wanted, wanted_all}
use Rattle.emit_cells.specs.PlainNeeds.{Notes}
use Rattle.emit_cells.proofs.Keys.{notes_both}
use Rattle.emit_cells.proofs.Walks.{wanted_more, room_at}
use Rattle.emit_cells.proofs.needs.+note.Goals as goal

pub note_all-loop-expr-preserved : goal.note_all-loop-expr-preserved
note_all-loop-expr-preserved g t c room =
    let A = g.row.A.Denot in
    let k = c.args.inputs in
    let es = c.args.exprs.now.items in
    let i = c.loop-expr.expr-index in
    let e = c.expr-item.result in
    let own = c.in_ok-note.ensures (room_at (expr_view {A = A}) k es i e (grind (arith, common_steps)) (grind (arith, common_steps)) room) in
    subst (λ (ns : List Need). Notes c.args.needs.now.keys c.note.new.needs.keys ns) (sym (wanted_more (expr_view {A = A}) k es i e (grind (arith, common_steps)) (grind (arith, common_steps))))
    (notes_both c.args.needs.now.keys c.loop-expr.needs.keys c.note.new.needs.keys (wanted_all k (exprs_view (take i es))) (wanted k (expr_view e)) (c.loop-expr.invariant room) own)
