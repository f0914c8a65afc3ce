use Rattle.flow.specs.View.{outer_view}
use Rattle.language_laws.specs.TypedValues.{own_outer}
use Rattle.emit_statements.proofs.Starts.{inside_all, nothing_handed, passed_all}
use Rattle.emit_statements.proofs.own.add_own_entries.Goals as goal

pub returns-clause-added : goal.returns-clause-added
returns-clause-added g c room =
    let A = g.row.A.Denot in
    let all = own_outer (outer_view {A = A} c.args.outer.now) in
    let k = c.args.standing.inputs in
    let inside = inside_all all in
    let passed = passed_all k all c.new-passed.result c.pass_own_outer.new.passed (nothing_handed c.new-passed.result c.new-passed.ensures.empty) (c.in_ok-pass_own_outer.ensures all room inside) in
    c.in_ok-add_own_outer.ensures.added all passed room inside

pub returns-clause-marks : goal.returns-clause-marks
returns-clause-marks g c = c.in_ok-add_own_outer.ensures.marks
