use Rattle.std.proofs.Common.{[], ◌∷◌, ◌++◌}
use Rattle.language.specs.Core.{calls}
use Rattle.flow.specs.View.{call_view, parts_view}
use Rattle.flow.proofs.Growing.{grows_still}
use Rattle.emit_cells.proofs.Chunks.{added_both}
use Rattle.emit_cells.proofs.Lasts.{inside_front}
use Rattle.emit_cells.proofs.Passing.{in_place, passes_both, passes_call}
use Rattle.emit_statements.proofs.Starts.{inside_all, nothing_handed, passed_all}
use Rattle.emit_statements.proofs.calls.add_call_entries.Goals as goal

pub returns-clause-added : goal.returns-clause-added
returns-clause-added g c room call_room =
    let A = g.row.A.Denot in
    let k = c.args.standing.inputs in
    let ps = parts_view {A = A} c.args.parts.now.items in
    let call = call_view {A = A} c.args.call.now in
    let all = ps ++ calls call ∷ [] in
    let inside = inside_front all ps (calls call ∷ []) (inside_all all) in
    let passed = passed_all k all c.new-passed.result c.pass_parts.new.passed (nothing_handed c.new-passed.result c.new-passed.ensures.empty)
    (passes_both ps (calls call ∷ []) c.new-passed.result c.pass_parts.new.passed c.pass_parts.new.passed (c.in_ok-pass_parts.ensures all room inside) (passes_call call c.pass_parts.new.passed)) in
    added_both ps (calls call ∷ []) c.args.entries.now.items c.add_parts.new.entries.items c.add_call.new.entries.items
    (c.in_ok-add_parts.ensures.added all passed room inside) (c.in_ok-add_call.ensures.added all passed call_room (in_place ps (calls call) []))

pub returns-clause-marks : goal.returns-clause-marks
returns-clause-marks g c = grows_still c.in_ok-add_parts.ensures.marks c.in_ok-add_call.ensures.marks
