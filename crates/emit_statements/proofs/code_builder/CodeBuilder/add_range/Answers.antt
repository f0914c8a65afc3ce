use Rattle.std.proofs.Common.{[], List, subst, sym}
use Rattle.std.proofs.lemmas.Result.{on_ok_weaker}
use Rattle.std.specs.Prelude.{option_map}
use Rattle.flow.specs.View.{outer_view}
use Rattle.task_code.specs.View as code_view
use Rattle.emit_cells.specs.PlainNeeds.{Noted}
use Rattle.emit_cells.proofs.Keys.{noted_none}
use Rattle.flow.specs.Cells.{Anchor}
use Rattle.emit_cells.specs.Marks.{MarksGrow}
use Rattle.emit_statements.proofs.Entries.{range_added}
use Rattle.emit_statements.proofs.code_builder.CodeBuilder.add_range.Goals as goal

pub returns-clause-entry : goal.returns-clause-entry
returns-clause-entry g c =
    let A = g.row.A.Denot in
    let s = c.args.statement.standing in
    on_ok_weaker c.add_entry.result
    (λ adds. λ x y b room_low room_high room_step priority.
    range_added s c.args.statement.node (outer_view {A = A} c.args.range.now.low) (outer_view {A = A} c.args.range.now.high) (option_map (outer_view {A = A}) c.args.range.now.step) x y b (code_view.loop_view c.args.turns) c.note_range.new.needs.keys
    (code_view.act_view c.in_ok-act.act) c.args.self.now.entries.items c.add_entry.new.self.entries.items room_low room_high room_step priority
    (c.in_ok-note_range.ensures room_low room_high room_step [] (subst (Noted []) (sym c.new-needs.ensures.empty) noted_none)) (λ ready. c.in_ok-act.ensures.does ready room_low room_high room_step) adds)
    c.add_entry.ensures.entry

pub returns-clause-marks : goal.returns-clause-marks
returns-clause-marks g c =
    on_ok_weaker c.add_entry.result
    (λ grown. subst (λ (xs : List Anchor). MarksGrow c.args.self.now.entries.items c.add_entry.new.self.entries.items xs) (c.in_ok-act.ensures.unmarked c.args.statement.node c.args.statement.standing.at) grown)
    c.add_entry.ensures.marks
