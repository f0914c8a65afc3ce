use Rattle.std.proofs.Common.{[], ap, subst, sym}
use Rattle.std.proofs.lemmas.Result.{on_ok_weaker}
use Rattle.flow.specs.View.{outer_view}
use Rattle.task_code.specs.View as code_view
use Rattle.code_rules.specs.IsCodeOf.{seen_as}
use Rattle.emit_cells.specs.PlainNeeds.{Noted}
use Rattle.emit_cells.proofs.Keys.{noted_none}
use Rattle.emit_statements.proofs.Entries.{choose_added, when_added}
use Rattle.emit_statements.proofs.code_builder.CodeBuilder.add_branch.Goals as goal

pub returns-clause-one : goal.returns-clause-one
returns-clause-one g c =
    let A = g.row.A.Denot in
    let s = c.args.statement.standing in
    let o = outer_view {A = A} c.args.condition.now in
    let e = seen_as c.is_outer_plain-plain.result o.cell.node o.cell.form in
    on_ok_weaker c.add_entry.result
    (λ adds. λ b room priority none.
    when_added s c.args.statement.node o b e c.args.then c.args.other c.note_seen.new.needs.keys (code_view.expr_view c.in_ok-test.test) c.args.self.now.entries.items c.add_entry.new.self.entries.items room.1 priority none
    (ap (λ t. seen_as t o.cell.node o.cell.form) c.is_outer_plain-plain.ensures) (c.in_ok-note_seen.ensures room.1 [] (subst (Noted []) (sym c.new-needs.ensures.empty) noted_none)) (λ ready. c.in_ok-test.ensures ready room.1) adds)
    c.add_entry.ensures.entry

pub returns-clause-two : goal.returns-clause-two
returns-clause-two g c =
    let A = g.row.A.Denot in
    let s = c.args.statement.standing in
    let o = outer_view {A = A} c.args.condition.now in
    let e = seen_as c.is_outer_plain-plain.result o.cell.node o.cell.form in
    on_ok_weaker c.add_entry.result
    (λ adds. λ b d m room priority some.
    choose_added s c.args.statement.node o b d e c.args.then m c.args.other c.note_seen.new.needs.keys (code_view.expr_view c.in_ok-test.test) c.args.self.now.entries.items c.add_entry.new.self.entries.items room.1 priority some
    (ap (λ t. seen_as t o.cell.node o.cell.form) c.is_outer_plain-plain.ensures) (c.in_ok-note_seen.ensures room.1 [] (subst (Noted []) (sym c.new-needs.ensures.empty) noted_none)) (λ ready. c.in_ok-test.ensures ready room.1) adds)
    c.add_entry.ensures.entry

pub returns-clause-marks : goal.returns-clause-marks
returns-clause-marks g c = c.add_entry.ensures.marks
