use Rattle.std.proofs.Common.{[], ◌∷◌, ◌++◌, ap, sym, subst, ◌∙◌, map}
use Rattle.flow.specs.View.{expr_view}
use Rattle.task_code.specs.Code as pure
use Rattle.task_code.specs.View as code_view
use Rattle.code_rules.specs.CodeNames.{each_once, over, wanted}
use Rattle.emit_cells.specs.PlainNeeds.{Noted}
use Rattle.emit_cells.proofs.Keys.{noted_none}
use Rattle.emit_cells.specs.Made.{made}
use Rattle.emit_cells.proofs.Ready.{ready}
use Rattle.emit_cells.proofs.parts.add_computed.Goals as goal

pub returns-clause-entry : goal.returns-clause-entry
returns-clause-entry g c room =
    let A = g.row.A.Denot in
    let k = c.args.standing.inputs in
    let e = expr_view {A = A} c.args.expr.now in
    let ws = wanted k e in
    let noted : Noted ws c.note.new.needs.keys = c.in_ok-note.ensures room.0 [] (subst (Noted []) (sym c.new-needs.ensures.empty) noted_none) in
    let value = c.in_ok-value.ensures (ready ws c.note.new.needs.keys noted room.1) room.0 in
    c.in_ok-push_entry.ensures.entry ws noted
    ∙ ap (λ v. map code_view.entry_view c.args.entries.now.items ++ made c.args.standing c.args.shown (each_once ws) (pure.Cell v) ∷ []) (value ∙ ap (λ ns. over k ns e) noted.are)

pub returns-clause-marks : goal.returns-clause-marks
returns-clause-marks g c = c.in_ok-push_entry.ensures.marks
