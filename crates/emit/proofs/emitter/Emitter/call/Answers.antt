use Rattle.std.proofs.Common.{map}
use Rattle.language.specs.Core as core
use Rattle.flow.specs.Shapes.{kinds_of_function}
use Rattle.flow.specs.View.{call_view, parts_view}
use Rattle.emit.specs.Emits.{roots_of}
use Rattle.emit.proofs.Emitting.{ok-both, simple-emits}
use Rattle.emit.proofs.emitter.Emitter.call.Goals as goal

pub returns-clause-laid : goal.returns-clause-laid
returns-clause-laid g c =
    let A = g.row.A.Denot in
    let functions = c.args.functions.now.items in
    let one = c.args.statement in
    let s = one.standing in
    let a = core.call_alone s.priority (parts_view {A = A} c.args.parts.now.items) (call_view {A = A} c.args.call.now) in
    let now = c.args.self.now in
    ok-both c.call_alone.result _ _ _
    (λ into. λ few_are.
    simple-emits (map (kinds_of_function {A = A}) functions) (roots_of functions) s.inputs s.at one.node a now.writer.entries.items c.call_alone.new.self.entries.items now.bodies.items now.writer.filling c.call_alone.new.self.filling
    few_are (λ bodies room few. into (roots_of functions) one.node bodies room few))
    c.call_alone.ensures.laid c.call_alone.ensures.few

pub returns-clause-marks : goal.returns-clause-marks
returns-clause-marks g c = c.call_alone.ensures.marks
