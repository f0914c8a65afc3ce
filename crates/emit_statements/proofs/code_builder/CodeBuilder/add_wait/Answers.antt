use Rattle.std.proofs.Common.{[], map, subst, sym}
use Rattle.std.proofs.lemmas.Result.{on_ok_weaker}
use Rattle.task_code.specs.View as code_view
use Rattle.emit_cells.specs.PlainNeeds.{Noted}
use Rattle.emit_cells.proofs.Keys.{noted_none}
use Rattle.emit_statements.proofs.Merged.{inner_room, wait_added, waited}
use Rattle.emit_statements.proofs.code_builder.CodeBuilder.add_wait.Goals as goal

pub returns-clause-entry : goal.returns-clause-entry
returns-clause-entry g c =
    let A = g.row.A.Denot in
    let s = c.args.statement.standing in
    let k = s.inputs in
    let names = c.args.names.now.items in
    let inner = c.args.inner.now.items in
    on_ok_weaker c.add_entry.result
    (λ adds. λ b room priority.
    let inside = inner_room {A = A} k inner b room.1 in
    let own = c.in_ok-note_names.ensures room.0 [] (subst (Noted []) (sym c.new-needs.ensures.empty) noted_none) in
    wait_added {A = A} s c.args.statement.node names inner b c.args.body (map code_view.header_view c.in_ok-headers.headers.items) c.note_inner.new.needs.keys c.args.self.now.entries.items c.add_entry.new.self.entries.items priority
    (c.in_ok-note_inner.ensures inside (waited k names) own) (c.in_ok-headers.ensures room.0 inside) adds)
    c.add_entry.ensures.entry

pub returns-clause-marks : goal.returns-clause-marks
returns-clause-marks g c = c.add_entry.ensures.marks
