use Rattle.std.proofs.Common.{[], ◌∷◌, ap, sym, subst, ◌∙◌}
use Rattle.std.proofs.lemmas.Result.{on_ok_weaker}
use Rattle.language.specs.Core.{Form, inner}
use Rattle.language.specs.Members.{◌∈◌}
use Rattle.flow.specs.View.{expr_view, form_view, name_view}
use Rattle.task_code.specs.Code.{Read}
use Rattle.task_code.specs.View as code_view
use Rattle.code_rules.specs.Room.{FormRoom}
use Rattle.emit_cells.specs.Chunk.{Added, element_at}
use Rattle.emit_cells.specs.Made.{made}
use Rattle.emit_cells.proofs.Chunks.{computed_added, read_added}
use Rattle.emit_cells.proofs.Marking.{marked_one}
use Rattle.emit_cells.proofs.parts.add_cell.Goals as goal

pub returns-in-Compute-clause-added : goal.returns-in-Compute-clause-added
returns-in-Compute-clause-added g c =
    let A = g.row.A.Denot in
    let s = c.args.standing in
    let cell = c.args.cell.now in
    let is = ap (form_view {A = A}) c.in-Compute.is in
    on_ok_weaker c.add_computed.result
    (λ adds. λ fs all passed room there told.
    subst (λ (f : Form). Added fs s.inputs all s.at s.priority (inner (record { node = cell.node; form = f }) ∷ []) c.args.entries.now.items c.add_computed.new.entries.items) (sym is)
    (computed_added fs s.inputs all s (record { node = cell.node; offset = cell.at }) (expr_view {A = A} c.in-Compute.expr) c.args.entries.now.items c.add_computed.new.entries.items told (adds (subst (FormRoom s.inputs) is room))))
    c.add_computed.ensures.entry

pub returns-in_ok-need-in-Read-clause-added : goal.returns-in_ok-need-in-Read-clause-added
returns-in_ok-need-in-Read-clause-added g c =
    let A = g.row.A.Denot in
    let s = c.args.standing in
    let cell = c.args.cell.now in
    let is = ap (form_view {A = A}) c.in-Read.is in
    on_ok_weaker c.add_read.result
    (λ adds. λ fs all passed room there told.
    subst (λ (f : Form). Added fs s.inputs all s.at s.priority (inner (record { node = cell.node; form = f }) ∷ []) c.args.entries.now.items c.add_read.new.entries.items) (sym is)
    (read_added fs s.inputs all c.args.passed.now s (record { node = cell.node; offset = cell.at }) c.in-Read.index (name_view c.in-Read.array) (code_view.need_view c.in_ok-need-in-Read.need) c.args.entries.now.items c.add_read.new.entries.items passed told
    (subst (λ (f : Form). inner (record { node = cell.node; form = f }) ∈ all) is there)
    (λ a h. c.in_ok-need-in-Read.ensures a h ∙ ap (λ r. element_at r a) (c.named.ensures (subst (FormRoom s.inputs) is room))) adds))
    c.add_read.ensures

pub returns-in-Compute-clause-marks : goal.returns-in-Compute-clause-marks
returns-in-Compute-clause-marks g c = c.add_computed.ensures.marks

pub returns-in_ok-need-in-Read-clause-marks : goal.returns-in_ok-need-in-Read-clause-marks
returns-in_ok-need-in-Read-clause-marks g c =
    let cell = c.args.cell.now in
    on_ok_weaker c.add_read.result
    (λ adds. marked_one c.args.entries.now.items c.add_read.new.entries.items (made c.args.standing (record { node = cell.node; offset = cell.at }) (code_view.need_view c.in_ok-need-in-Read.need ∷ []) Read) adds)
    c.add_read.ensures
