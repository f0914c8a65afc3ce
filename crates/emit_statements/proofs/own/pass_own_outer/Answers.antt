use Rattle.flow.specs.View.{parts_view}
use Rattle.emit_cells.proofs.Lasts.{inside_front}
use Rattle.emit_cells.proofs.Passing.{passes_both}
use Rattle.emit_statements.proofs.own.pass_own_outer.Goals as goal

pub returns : goal.returns
returns g c all room inside =
    let A = g.row.A.Denot in
    let ps = parts_view {A = A} c.args.outer.now.parts.items in
    passes_both ps _ c.args.passed.now c.pass_parts.new.passed c.pass_element.new.passed
    (c.in_ok-pass_parts.ensures all room.0 (inside_front all ps _ inside)) (c.in_ok-pass_element.ensures all room inside)
