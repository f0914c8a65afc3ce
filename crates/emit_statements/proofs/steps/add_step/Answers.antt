use Rattle.std.proofs.Common.{List, ap, map, subst, sym, Option}
use Rattle.std.proofs.lemmas.Result.{on_ok_weaker}
use Rattle.std.specs.Prelude.{option_map, option_to_list}
use Rattle.language.specs.Core.{Outer, Part}
use Rattle.language.specs.Parts.{outer_parts}
use Rattle.flow.specs.Shapes.{kinds_of_function}
use Rattle.flow.specs.View.{outer_view}
use Rattle.code_rules.specs.Room.{StepRoom}
use Rattle.emit_cells.specs.Chunk.{Added, Inside, IsPassed}
use Rattle.flow.specs.Cells.{Anchor, step_anchors}
use Rattle.flow.proofs.Growing.{grows_none}
use Rattle.emit_cells.specs.Marks.{MarksGrow}
use Rattle.emit_cells.proofs.Chunks.{added_none, chunk_none}
use Rattle.emit_statements.proofs.steps.add_step.Goals as goal

pub returns-in-None-clause-added : goal.returns-in-None-clause-added
returns-in-None-clause-added g c =
    let A = g.row.A.Denot in
    let s = c.args.standing in
    let k = s.inputs in
    let fs = map (kinds_of_function {A = A}) c.args.functions.now.items in
    let old = c.args.entries.now.items in
    subst (λ (o : Option Outer). (all : List Part) → IsPassed k all c.args.passed.now → StepRoom k o → Inside all (outer_parts (option_to_list o)) → Added fs k all s.at s.priority (outer_parts (option_to_list o)) old old)
    (sym (ap (option_map (outer_view {A = A})) c.in-None.is)) (λ all passed room inside. added_none _ old chunk_none)

pub returns-in-Some-clause-added : goal.returns-in-Some-clause-added
returns-in-Some-clause-added g c =
    let A = g.row.A.Denot in
    let s = c.args.standing in
    let k = s.inputs in
    let fs = map (kinds_of_function {A = A}) c.args.functions.now.items in
    on_ok_weaker c.add_outer.result
    (λ add.
    subst (λ (o : Option Outer). (all : List Part) → IsPassed k all c.args.passed.now → StepRoom k o → Inside all (outer_parts (option_to_list o))
    → Added fs k all s.at s.priority (outer_parts (option_to_list o)) c.args.entries.now.items c.add_outer.new.entries.items) (sym (ap (option_map (outer_view {A = A})) c.in-Some.is)) add)
    c.add_outer.ensures.added

pub returns-in-None-clause-marks : goal.returns-in-None-clause-marks
returns-in-None-clause-marks g c = grows_none _ _

pub returns-in-Some-clause-marks : goal.returns-in-Some-clause-marks
returns-in-Some-clause-marks g c =
    let A = g.row.A.Denot in
    on_ok_weaker c.add_outer.result
    (λ grown. subst (λ (xs : List Anchor). MarksGrow c.args.entries.now.items c.add_outer.new.entries.items xs) (sym (ap (step_anchors {A = A}) c.in-Some.is)) grown)
    c.add_outer.ensures.marks
