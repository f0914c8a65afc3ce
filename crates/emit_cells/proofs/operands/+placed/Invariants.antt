use Rattle.std.proofs.Common.{◌≡◌, map, take}
use Rattle.task_code.specs.View as code_view
use Rattle.flow.specs.View.{expr_view, exprs_view}
use Rattle.code_rules.specs.CodeNames.{over}
use Rattle.code_rules.specs.Room.{ExprsRoom}
use Rattle.emit_cells.specs.PlainNeeds.{need_of, IsReady}
use Rattle.emit_cells.proofs.operands.+placed.Given as goal

abbrev pub invariant-all_placed-loop-expr : goal.invariant-all_placed-loop-expr
invariant-all_placed-loop-expr g l =
    IsReady l.needs.keys → ExprsRoom l.inputs (exprs_view l.exprs.items)
    → map code_view.expr_view l.found.items ≡ map (λ e. over l.inputs (map need_of l.needs.keys) (expr_view e)) (take l.expr-index l.exprs.items)
