use Rattle.std.proofs.Common.{map, subst}
use Rattle.std.proofs.lemmas.Result.{on_ok_weaker}
use Rattle.flow.specs.Shapes.{kinds_of_function}
use Rattle.flow.specs.View.{cell_view, parts_view}
use Rattle.emit_cells.specs.Chunk.{Told}
use Rattle.flow.proofs.Growing.{grows_none}
use Rattle.emit_cells.proofs.Lasts.{last_told, last_there, plain_last}
use Rattle.emit_cells.proofs.outers.add_last.Goals as goal

pub returns-then-plain-clause-added : goal.returns-then-plain-clause-added
returns-then-plain-clause-added g c all passed room inside =
    let A = g.row.A.Denot in
    let s = c.args.standing in
    let o = c.args.outer.now in
    plain_last (map (kinds_of_function {A = A}) c.args.functions.now.items) s.inputs all s.at s.priority (parts_view {A = A} o.parts.items) (cell_view {A = A} o.cell) c.is_outer_plain-plain.result c.args.entries.now.items
    inside c.is_outer_plain-plain.ensures c.if-plain.true

pub returns-else-plain-clause-added : goal.returns-else-plain-clause-added
returns-else-plain-clause-added g c =
    let A = g.row.A.Denot in
    let o = c.args.outer.now in
    let ps = parts_view {A = A} o.parts.items in
    let cell = cell_view {A = A} o.cell in
    on_ok_weaker c.add_cell.result
    (λ add. λ all passed room inside.
    add (map (kinds_of_function {A = A}) c.args.functions.now.items) all passed room.1 (last_there all ps cell inside)
    (subst (Told all cell.node) c.if-plain.false (last_told all ps cell c.is_outer_plain-plain.result inside c.is_outer_plain-plain.ensures)))
    c.add_cell.ensures.added

pub returns-then-plain-clause-marks : goal.returns-then-plain-clause-marks
returns-then-plain-clause-marks g c = grows_none _ _

pub returns-else-plain-clause-marks : goal.returns-else-plain-clause-marks
returns-else-plain-clause-marks g c = c.add_cell.ensures.marks
