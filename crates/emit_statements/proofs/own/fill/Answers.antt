use Rattle.std.proofs.Common.{ap, map, subst, sym, ◌∙◌}
use Rattle.std.proofs.lemmas.Result.{IfOk-weaker}
use Rattle.flow.specs.View.{form_view, name_view}
use Rattle.code_rules.specs.IsCodeOf.{fill_act, own_form}
use Rattle.code_rules.specs.Room.{FormRoom}
use Rattle.emit_cells.specs.PlainNeeds.{need_of}
use Rattle.emit_statements.proofs.own.fill.Goals as goal

pub returns-in-Compute-clause-does : goal.returns-in-Compute-clause-does
returns-in-Compute-clause-does g c =
    let A = g.row.A.Denot in
    let k = c.args.inputs in
    let is = ap (form_view {A = A}) c.in-Compute.is in
    IfOk-weaker c.filled.result _ _
    (λ act fills. λ l ready name room.
    fills l ready name (subst (FormRoom k) is room)
    ∙ ap (λ f. fill_act l k (map need_of c.args.needs.now.keys) (name_view c.args.array) (own_form c.args.outer.now.cell.node f)) (sym is))
    c.filled.ensures.does
