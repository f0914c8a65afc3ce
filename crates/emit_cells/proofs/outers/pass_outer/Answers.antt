use Rattle.flow.specs.View.{cell_view, parts_view}
use Rattle.emit_cells.proofs.Passing.{passes_both}
use Rattle.emit_cells.proofs.Lasts.{inside_front, pass_last}
use Rattle.emit_cells.proofs.outers.pass_outer.Goals as goal

pub returns : goal.returns
returns g c all room inside =
    let A = g.row.A.Denot in
    let o = c.args.outer.now in
    let ps = parts_view {A = A} o.parts.items in
    passes_both ps _ c.args.passed.now c.pass_parts.new.passed c.pass_cell.new.passed
    (c.in_ok-pass_parts.ensures all room.0 (inside_front all ps _ inside))
    (pass_last c.args.inputs all ps (cell_view {A = A} o.cell) c.is_outer_plain.result c.pass_parts.new.passed c.pass_cell.new.passed inside c.is_outer_plain.ensures (c.in_ok-pass_cell.ensures room.1))
