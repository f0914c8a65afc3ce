use Rattle.std.proofs.Common.{map}
use Rattle.std.proofs.lemmas.Result.{IfOk-weaker}
use Rattle.flow.specs.View.{outer_view}
use Rattle.task_code.specs.View as code_view
use Rattle.emit_cells.specs.PlainNeeds.{need_of}
use Rattle.emit_statements.proofs.Owns.{filled_done}
use Rattle.emit_statements.proofs.own.act_of.Goals as goal

pub returns-in-Fill-clause-does : goal.returns-in-Fill-clause-does
returns-in-Fill-clause-does g c =
    let A = g.row.A.Denot in
    IfOk-weaker c.fill.result _ _
    (λ act fills. λ l p ready room.
    filled_done l c.args.inputs p (map need_of c.args.needs.now.keys) c.in-Fill.array c.args.done (outer_view {A = A} c.args.outer.now) (code_view.act_view act) c.in-Fill.is room (fills l ready))
    c.fill.ensures.does
