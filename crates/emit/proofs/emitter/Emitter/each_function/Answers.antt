use Rattle.std.proofs.Common.{◌≡◌, ◌<◌, length, get_or, map, arith}
use Rattle.std.proofs.lemmas.Grind.{common_steps}
use Rattle.flow.specs.Shapes.{kinds_of_function}
use Rattle.flow.specs.Cells.{function_anchors}
use Rattle.flow.proofs.Growing.{among_all, grows_again, grows_among, grows_none}
use Rattle.emit.specs.Emits.{laying_of, roots_of}
use Rattle.emit.proofs.Scripts.{functions-end, functions-start, functions-step}
use Rattle.emit.proofs.emitter.Emitter.each_function.Goals as goal

pub loop-function-init : goal.loop-function-init
loop-function-init g c =
    let A = g.row.A.Denot in
    let functions = c.args.functions.now.items in
    (functions-start {A = A} (map (kinds_of_function {A = A}) functions) (roots_of functions) functions (laying_of c.args.self.now) c.args.found.now.items, grows_none _ _)

pub loop-function-preserved : goal.loop-function-preserved
loop-function-preserved g c =
    let A = g.row.A.Denot in
    let functions = c.args.functions.now.items in
    let i = c.loop-function.function-index in
    let one = c.function-item.result in
    let below : i < length functions = grind (arith, common_steps) in
    let is : one ≡ get_or functions i one = grind (arith, common_steps) in (
      functions-step {A = A} (map (kinds_of_function {A = A}) functions) (roots_of functions) functions functions i one
          (laying_of c.args.self.now) (laying_of c.loop-function.self) (laying_of c.function.new.self) c.args.found.now.items c.loop-function.found.items c.function.new.found.items
          below is c.loop-function.invariant.0 c.in_ok-function.ensures.laid,
      grows_again c.loop-function.invariant.1 (grows_among c.in_ok-function.ensures.marks (among_all (function_anchors {A = A}) functions i one below is)),
    )

pub returns-clause-laid : goal.returns-clause-laid
returns-clause-laid g c =
    let A = g.row.A.Denot in
    let functions = c.args.functions.now.items in
    functions-end {A = A} (map (kinds_of_function {A = A}) functions) (roots_of functions) functions functions c.loop-function.function-index
    (laying_of c.args.self.now) (laying_of c.loop-function.self) c.args.found.now.items c.loop-function.found.items (grind (arith, common_steps)) c.loop-function.invariant.0

pub returns-clause-marks : goal.returns-clause-marks
returns-clause-marks g c = c.loop-function.invariant.1
