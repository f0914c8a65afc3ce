use Rattle.std.proofs.Common.{◌∷◌, [], length, map, sym, refl, ap, ◌∙◌}
use Rattle.std.proofs.lemmas.List.{length-map, map-append}
use Rattle.std.proofs.lemmas.Bool.{and_parts}
use Rattle.flow.specs.Shapes.{block_declared, functions_declared, kinds_of}
use Rattle.flow.specs.View.{core_of, function_view}
use Rattle.task_code.specs.View.{body_view}
use Rattle.wait_merge.specs.Merged.{block_seen, functions_merged}
use Rattle.emit.specs.Emits.{roots_of}
use Rattle.emit.proofs.Marking.{all_marked}
use Rattle.emit.proofs.Scripts.{script-emits}
use Rattle.emit.proofs.script.lay_script.Goals as goal

pub returns-clause-laid : goal.returns-clause-laid
returns-clause-laid g c can merged =
    let A = g.row.A.Denot in
    let flow = c.args.flow.now in
    let functions = flow.functions.items in
    let both = and_parts (block_seen {A = A} flow.body).merged (functions_merged {A = A} functions) merged in
    let start = c.new-emitter.result in
    let first = c.root.new.self in
    let last = c.each_function.new.self in
    script-emits (core_of {A = A} flow) (kinds_of {A = A} flow) (block_declared {A = A} flow.body) (functions_declared {A = A} functions) (length functions) (roots_of functions)
    start.writer.entries.items first.writer.entries.items last.writer.entries.items start.bodies.items first.bodies.items last.bodies.items
    c.new-found.result.items c.push.new.self.items c.each_function.new.found.items c.append.new.self.items (body_view c.in_ok-main.main) can
    (sym (length-map functions (function_view {A = A}))) (λ few. refl) c.new-emitter.ensures.entries c.new-emitter.ensures.bodies c.new-found.ensures.items
    (c.in_ok-main.ensures.laid both.0) (ap (map body_view) c.in_ok-push.ensures.items ∙ map-append body_view c.new-found.result.items (c.in_ok-main.main ∷ [])) (c.in_ok-each_function.ensures.laid both.1)
    (ap (map body_view) c.in_ok-append.ensures.items ∙ map-append body_view c.each_function.new.found.items last.bodies.items)

pub returns-clause-marks : goal.returns-clause-marks
returns-clause-marks g c =
    all_marked c.new-emitter.result.writer.entries.items c.root.new.self.writer.entries.items c.each_function.new.self.writer.entries.items _ _ c.new-emitter.ensures.entries
    c.in_ok-main.ensures.marks c.in_ok-each_function.ensures.marks
