use Rattle.std.proofs.Common.{[], List, subst, sym, true}
use Rattle.flow.specs.View.{outer_view}
use Rattle.task_code.specs.View as code_view
use Rattle.code_rules.specs.CodeNames.{wanted}
use Rattle.code_rules.specs.IsCodeOf.{seen_as}
use Rattle.flow.specs.Cells.{Anchor}
use Rattle.emit_cells.specs.Marks.{MarksGrow}
use Rattle.emit_cells.specs.PlainNeeds.{Noted}
use Rattle.emit_cells.proofs.Keys.{noted_none}
use Rattle.emit_cells.proofs.Ready.{ready}
use Rattle.emit_statements.proofs.Owns.{few_seen, outer_room, own_added}
use Rattle.emit_statements.proofs.own.add_own.Goals as goal

pub returns-clause-own : goal.returns-clause-own
returns-clause-own g c room priority =
    let A = g.row.A.Denot in
    let s = c.args.statement.standing in
    let o = outer_view {A = A} c.args.outer.now in
    let d = c.args.done in
    let ks = c.note_seen.new.needs.keys in
    let form = (outer_room d s.inputs s.priority o room).1 in
    let ws = wanted s.inputs (seen_as true o.cell.node o.cell.form) in
    let noted : Noted ws ks = c.in_ok-note_seen.ensures form [] (subst (Noted []) (sym c.new-needs.ensures.empty) noted_none) in
    own_added s c.args.statement.node d o ks (code_view.act_view c.in_ok-act.act) c.args.entries.now.items c.push_entry.new.entries.items priority noted
    (λ l. c.in_ok-act.ensures.does l s.priority (ready ws ks noted (few_seen s.inputs o.cell.node o.cell.form form)) room) (c.in_ok-push_entry.ensures.entry ws noted)

pub returns-clause-marks : goal.returns-clause-marks
returns-clause-marks g c =
    subst (λ (xs : List Anchor). MarksGrow c.args.entries.now.items c.push_entry.new.entries.items xs) (c.in_ok-act.ensures.unmarked c.args.statement.node c.args.statement.standing.at) c.in_ok-push_entry.ensures.marks
