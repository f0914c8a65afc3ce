use Rattle.std.proofs.Common.{map}
use Rattle.language.specs.Core as core
use Rattle.flow.specs.Shapes.{kinds_of_function}
use Rattle.flow.specs.View.{name_view, outer_view}
use Rattle.emit.specs.Emits.{roots_of}
use Rattle.emit.proofs.Emitting.{ok-both, simple-emits}
use Rattle.emit.proofs.emitter.Emitter.insert.Goals as goal

pub returns-clause-laid : goal.returns-clause-laid
returns-clause-laid g c =
    let A = g.row.A.Denot in
    let functions = c.args.functions.now.items in
    let one = c.args.statement in
    let s = one.standing in
    let a = core.insert (name_view c.args.array) (outer_view {A = A} c.args.index.now) (outer_view {A = A} c.args.right.now) in
    let now = c.args.self.now in
    ok-both c.insert.result _ _ _
    (λ into. λ few_are. λ priority.
    simple-emits (map (kinds_of_function {A = A}) functions) (roots_of functions) s.inputs s.at one.node a now.writer.entries.items c.insert.new.self.entries.items now.bodies.items now.writer.filling c.insert.new.self.filling
    (λ l room suits stands. few_are l room suits stands priority) (λ bodies room few. into (roots_of functions) bodies room few priority))
    c.insert.ensures.laid c.insert.ensures.few

pub returns-clause-marks : goal.returns-clause-marks
returns-clause-marks g c = c.insert.ensures.marks
