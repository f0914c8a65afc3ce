use Rattle.std.proofs.Common.{map}
use Rattle.flow.specs.Shapes.{block_declared, kinds_of_function}
use Rattle.flow.specs.View.{block_view}
use Rattle.task_code.specs.View.{body_view, opener_view}
use Rattle.emit.specs.Emits.{roots_of}
use Rattle.emit.proofs.Scripts.{body-emits}
use Rattle.emit.proofs.emitter.Emitter.root.Goals as goal

pub returns-clause-laid : goal.returns-clause-laid
returns-clause-laid g c =
    let A = g.row.A.Denot in
    let functions = c.args.functions.now.items in
    let old = c.args.self.now in
    let new = c.block.new.self in
    λ merged. body-emits (map (kinds_of_function {A = A}) functions) (roots_of functions) c.args.inputs (block_view {A = A} c.args.block.now) (block_declared {A = A} c.args.block.now) (opener_view c.args.opener)
    old.writer.entries.items new.writer.entries.items old.bodies.items new.bodies.items c.empty-nothing.result c.in_ok-filling.filling (body_view c.body.result)
    c.empty-nothing.ensures.makes c.empty-nothing.ensures.entries (c.in_ok-filling.ensures.laid merged) c.body.ensures

pub returns-clause-marks : goal.returns-clause-marks
returns-clause-marks g c = c.in_ok-filling.ensures.marks
