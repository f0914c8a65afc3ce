use Rattle.language.specs.Parts.{outer_parts}
use Rattle.emit_statements.proofs.Starts.{inside_all, nothing_handed, passed_all}
use Rattle.emit_statements.specs.Blocks.{range_outers}
use Rattle.emit_statements.proofs.parts.add_range_entries.Goals as goal

pub returns-clause-added : goal.returns-clause-added
returns-clause-added g c room_low room_high room_step =
    let A = g.row.A.Denot in
    let k = c.args.standing.inputs in
    let all = outer_parts (range_outers {A = A} c.args.range.now) in
    let inside = inside_all all in
    let passed = passed_all k all c.new-passed.result c.pass_range.new.passed (nothing_handed c.new-passed.result c.new-passed.ensures.empty) (c.in_ok-pass_range.ensures all room_low room_high room_step inside) in
    c.in_ok-add_bounds.ensures.added all passed room_low room_high room_step inside

pub returns-clause-marks : goal.returns-clause-marks
returns-clause-marks g c = c.in_ok-add_bounds.ensures.marks
