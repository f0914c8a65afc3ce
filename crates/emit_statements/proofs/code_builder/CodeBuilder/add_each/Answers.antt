use Rattle.std.proofs.Common.{[], ◌∷◌, ap, subst, sym, ◌∙◌}
use Rattle.std.proofs.lemmas.Result.{on_ok_weaker}
use Rattle.flow.specs.View.{name_view}
use Rattle.task_code.specs.Code.{Need}
use Rattle.task_code.specs.View as code_view
use Rattle.emit_cells.specs.PlainNeeds.{Noted, need_named}
use Rattle.emit_cells.proofs.Keys.{closed_named, noted_none}
use Rattle.emit_statements.proofs.Entries.{each_added}
use Rattle.emit_statements.proofs.code_builder.CodeBuilder.add_each.Goals as goal

pub returns-clause-entry : goal.returns-clause-entry
returns-clause-entry c =
    let s = c.args.statement.standing in
    let a = name_view c.args.array in
    let ks = c.note_name.new.needs.keys in
    on_ok_weaker c.add_entry.result
    (λ adds. λ x y b room priority.
    each_added s c.args.statement.node a x y b (code_view.loop_view c.args.turns) ks c.args.self.now.entries.items c.add_entry.new.self.entries.items priority
    (subst (λ (n : Need). Noted (n ∷ []) ks) (ap need_named (c.named.ensures room) ∙ closed_named s.inputs a) (c.in_ok-note_name.ensures [] (subst (Noted []) (sym c.new-needs.ensures.empty) noted_none))) adds)
    c.add_entry.ensures.entry

pub returns-clause-marks : goal.returns-clause-marks
returns-clause-marks c = c.add_entry.ensures.marks
