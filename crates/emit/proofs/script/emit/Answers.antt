use Rattle.std.proofs.Common.{◌≡◌, List, arith, map, subst, sym}
use Rattle.std.proofs.lemmas.List.{length-map}
use Rattle.std.proofs.lemmas.Result.{IfOk-weaker}
use Rattle.flow.specs.Shapes.{declared_of, kinds_of}
use Rattle.flow.specs.View.{core_of}
use Rattle.flow.specs.Cells.{Anchor, AreAmong, anchors_of}
use Rattle.task_code.specs.Code.{Code}
use Rattle.task_code.specs.View.{body_view, entry_view}
use Rattle.code_rules.specs.Laying.{bare}
use Rattle.emit_cells.specs.Marks.{marks_of}
use Rattle.emit_rights.specs.Granted.{laid_code}
use Rattle.code_laws.proofs.Bodies.{few_bodies}
use Rattle.code_laws.proofs.Marks.{laid_marks}
use Rattle.code_laws.proofs.Small.{laid_small}
use Rattle.emit.specs.Emits.{CanBeEmitted}
use Rattle.emit.proofs.Marking.{same_marks}
use Rattle.emit.proofs.script.emit.Goals as goal

pub granted-requires-clause-few_entries : goal.granted-requires-clause-few_entries
granted-requires-clause-few_entries g c =
    let A = g.row.A.Denot in
    let flow = c.args.flow.now in
    let r = c.requires in
    let laid = c.in_ok-laid.laid in
    let can : CanBeEmitted (core_of {A = A} flow) = record { calls = r.calls; cells = r.cells; reads = r.reads; room = r.room; size = r.size } in
    let few = laid_small (core_of {A = A} flow) (kinds_of {A = A} flow) (declared_of {A = A} flow) (laid_code laid.bodies.items laid.entries.items) (c.in_ok-laid.ensures.laid can r.merged) r.cells r.reads in
    let long = length-map laid.entries.items entry_view in
    let size = r.size in
    omega (arith, few, long, size)

pub granted-requires-clause-few_bodies : goal.granted-requires-clause-few_bodies
granted-requires-clause-few_bodies g c =
    let A = g.row.A.Denot in
    let flow = c.args.flow.now in
    let r = c.requires in
    let laid = c.in_ok-laid.laid in
    let can : CanBeEmitted (core_of {A = A} flow) = record { calls = r.calls; cells = r.cells; reads = r.reads; room = r.room; size = r.size } in
    let few = few_bodies (core_of {A = A} flow) (kinds_of {A = A} flow) (declared_of {A = A} flow) (laid_code laid.bodies.items laid.entries.items) (c.in_ok-laid.ensures.laid can r.merged) in
    let long = length-map laid.bodies.items body_view in
    let size = r.size in
    omega (arith, few, long, size)

pub granted-requires-clause-marks : goal.granted-requires-clause-marks
granted-requires-clause-marks g c =
    let A = g.row.A.Denot in
    let flow = c.args.flow.now in
    let r = c.requires in
    let laid = c.in_ok-laid.laid in
    let can : CanBeEmitted (core_of {A = A} flow) = record { calls = r.calls; cells = r.cells; reads = r.reads; room = r.room; size = r.size } in
    laid_marks (core_of {A = A} flow) (kinds_of {A = A} flow) (declared_of {A = A} flow) (laid_code laid.bodies.items laid.entries.items) (c.in_ok-laid.ensures.laid can r.merged) r.cells r.reads r.calls

pub returns-clause-marks : goal.returns-clause-marks
returns-clause-marks g c =
    let A = g.row.A.Denot in
    let cells = anchors_of {A = A} c.args.flow.now in
    let laid = map entry_view c.in_ok-laid.laid.entries.items in
    let told : Code → Type 0 = λ code. map bare code.entries ≡ map bare laid in
    let wanted : Code → Type 0 = λ code. AreAmong (marks_of code.entries) cells in
    IfOk-weaker c.granted.result told wanted
    (λ code same. subst (λ (xs : List Anchor). AreAmong xs cells) (sym (same_marks code.entries laid same)) c.in_ok-laid.ensures.marks)
    c.granted.ensures.entries
