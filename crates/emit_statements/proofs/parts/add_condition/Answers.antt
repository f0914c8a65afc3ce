use Rattle.std.proofs.Common.{[], ◌∷◌}
use Rattle.language.specs.Parts.{outer_parts}
use Rattle.flow.specs.View.{outer_view}
use Rattle.emit_statements.proofs.Starts.{inside_all, nothing_handed, passed_all}
use Rattle.emit_statements.proofs.parts.add_condition.Goals as goal

pub returns-clause-added : goal.returns-clause-added
returns-clause-added g c room =
    let A = g.row.A.Denot in
    let k = c.args.standing.inputs in
    let all = outer_parts (outer_view {A = A} c.args.condition.now ∷ []) in
    let inside = inside_all all in
    let passed = passed_all k all c.new-passed.result c.pass_outer.new.passed (nothing_handed c.new-passed.result c.new-passed.ensures.empty) (c.in_ok-pass_outer.ensures all room inside) in
    c.in_ok-add_outer.ensures.added all passed room inside

pub returns-clause-marks : goal.returns-clause-marks
returns-clause-marks g c = c.in_ok-add_outer.ensures.marks
