use Rattle.std.proofs.Common.{arith, map, ap, ◌∷◌, [], ◌∙◌}
use Rattle.std.proofs.lemmas.Grind.{common_steps}
use Rattle.std.proofs.lemmas.List.{map-append}
use Rattle.task_code.specs.View as code_view
use Rattle.flow.specs.View.{expr_view}
use Rattle.emit_cells.specs.PlainNeeds.{need_of}
use Rattle.emit_cells.proofs.Walks.{over_more, over_all, room_at}
use Rattle.emit_cells.proofs.operands.+placed.Goals as goal

pub all_placed-loop-expr-preserved : goal.all_placed-loop-expr-preserved
all_placed-loop-expr-preserved g t c ready room =
    let A = g.row.A.Denot in
    let k = c.args.inputs in
    let es = c.args.exprs.now.items in
    let i = c.loop-expr.expr-index in
    let e = c.expr-item.result in
    let own = c.in_ok-placed.ensures ready (room_at (expr_view {A = A}) k es i e (grind (arith, common_steps)) (grind (arith, common_steps)) room) in
    over_more (expr_view {A = A}) k (map need_of c.args.needs.now.keys) es i e (map code_view.expr_view c.loop-expr.found.items) (map code_view.expr_view c.push.new.self.items) (code_view.expr_view c.in_ok-placed.field-0)
    (grind (arith, common_steps)) (grind (arith, common_steps)) (c.loop-expr.invariant ready room) own
    (ap (map code_view.expr_view) c.in_ok-push.ensures.items ∙ map-append code_view.expr_view c.loop-expr.found.items (c.in_ok-placed.field-0 ∷ []))

pub all_placed-returns : goal.all_placed-returns
all_placed-returns g t c ready room =
    let A = g.row.A.Denot in
    over_all (expr_view {A = A}) c.args.inputs (map need_of c.args.needs.now.keys) c.args.exprs.now.items c.loop-expr.expr-index (map code_view.expr_view c.loop-expr.found.items) (grind (arith, common_steps)) (c.loop-expr.invariant ready room)
