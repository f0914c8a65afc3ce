use Rattle.std.proofs.Common.{map}
use Rattle.flow.specs.Shapes.{kinds_of_function}
use Rattle.flow.specs.View.{parts_view}
use Rattle.flow.proofs.Growing.{grows_both}
use Rattle.emit_cells.proofs.Chunks.{added_both}
use Rattle.emit_cells.proofs.Lasts.{inside_front}
use Rattle.emit_cells.proofs.own_cells.add_own_outer.Goals as goal

pub returns-clause-added : goal.returns-clause-added
returns-clause-added g c all passed room inside =
    let A = g.row.A.Denot in
    let ps = parts_view {A = A} c.args.outer.now.parts.items in
    added_both ps _ c.args.entries.now.items c.add_parts.new.entries.items c.add_element.new.entries.items
    (c.in_ok-add_parts.ensures.added all passed room.0 (inside_front all ps _ inside)) (c.in_ok-add_element.ensures.added (map (kinds_of_function {A = A}) c.args.functions.now.items) all passed room inside)

pub returns-clause-marks : goal.returns-clause-marks
returns-clause-marks g c = grows_both _ _ c.in_ok-add_parts.ensures.marks c.in_ok-add_element.ensures.marks
