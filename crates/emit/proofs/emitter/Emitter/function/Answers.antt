use Rattle.std.proofs.Common.{◌∷◌, [], map, ap, ◌∙◌, arith}
use Rattle.std.proofs.lemmas.Grind.{common_steps}
use Rattle.std.proofs.lemmas.List.{map-append}
use Rattle.flow.specs.Shapes.{block_declared, kinds_of_function}
use Rattle.flow.specs.View.{function_view}
use Rattle.task_code.specs.View.{body_view}
use Rattle.emit.specs.Emits.{laying_of, roots_of}
use Rattle.emit.proofs.Scripts.{function-emits}
use Rattle.emit.proofs.emitter.Emitter.function.Goals as goal

pub returns-clause-laid : goal.returns-clause-laid
returns-clause-laid g c =
    let A = g.row.A.Denot in
    let functions = c.args.functions.now.items in
    let found = c.args.found.now.items in
    λ merged. function-emits (map (kinds_of_function {A = A}) functions) (roots_of functions) (function_view {A = A} c.args.function.now) (block_declared {A = A} c.args.function.now.body) c.len-inputs.result
    (laying_of c.args.self.now) (laying_of c.root.new.self) found c.push.new.self.items (body_view c.in_ok-made.made)
    (grind (arith, common_steps)) (c.in_ok-made.ensures.laid merged) (ap (map body_view) c.in_ok-push.ensures.items ∙ map-append body_view found (c.in_ok-made.made ∷ []))

pub returns-clause-marks : goal.returns-clause-marks
returns-clause-marks g c = c.in_ok-made.ensures.marks
