use Rattle.std.proofs.Common.{◌≡◌, ap₂, arith, length, map, Bool, List}
use Rattle.std.proofs.lemmas.Grind.{common_steps}
use Rattle.flow.specs.Listed.{block_listed}
use Rattle.lowering.specs.Listed.{body_listed}
use Rattle.lowering.proofs.Showing.{same_function_shown}
use Rattle.language.specs.Resolved.{block_of}
use Rattle.syntax_trees.specs.View.{declarations_view, body_view}
use Rattle.types.specs.Typed.{table_of}
use Rattle.flow.specs.View.{block_view}
use Rattle.lowering.specs.View.{declared, variable_of}
use Rattle.lowering.proofs.Declaring.{same_shapes}
use Rattle.lowering.proofs.Statements.{same_count, same_function}
use Rattle.lowering.proofs.script.function.Goals as goal

pub returns-clause-core : goal.returns-clause-core
returns-clause-core g c =
    let A = g.row.A.Denot in
    let inputs = declarations_view {A = A} c.args.function.now.inputs in
    let outputs = declarations_view {A = A} c.args.function.now.outputs in
    same_function (length c.in_ok-inputs.inputs.items) (length inputs) (length c.in_ok-outputs.outputs.items) (length outputs)
    (block_view c.in_ok-body.body) (block_of (table_of c.args.typed.now) (body_view {A = A} c.args.function.now.body))
    (same_count (declared {A = A}) variable_of c.in_ok-inputs.inputs.items inputs c.in_ok-inputs.ensures)
    (same_count (declared {A = A}) variable_of c.in_ok-outputs.outputs.items outputs c.in_ok-outputs.ensures)
    c.in_ok-body.ensures.core

pub returns-clause-kinds : goal.returns-clause-kinds
returns-clause-kinds g c =
    let A = g.row.A.Denot in
    ap₂ (λ (xs ys : List Bool). (xs, ys))
    (same_shapes {A = A} c.in_ok-inputs.inputs.items (declarations_view {A = A} c.args.function.now.inputs) c.in_ok-inputs.ensures)
    (same_shapes {A = A} c.in_ok-outputs.outputs.items (declarations_view {A = A} c.args.function.now.outputs) c.in_ok-outputs.ensures)

pub returns-clause-shown : goal.returns-clause-shown
returns-clause-shown g c =
    let A = g.row.A.Denot in
    let named : c.in_ok-name.name.items ≡ c.args.function.now.name.text.items = grind (arith, common_steps) in
    same_function_shown c.args.function.now.name.span.from c.in_ok-name.name.items c.args.function.now.name.text.items
    (map (declared {A = A}) c.in_ok-inputs.inputs.items) (map variable_of (declarations_view {A = A} c.args.function.now.inputs))
    (map (declared {A = A}) c.in_ok-outputs.outputs.items) (map variable_of (declarations_view {A = A} c.args.function.now.outputs))
    (block_listed c.in_ok-body.body) (body_listed (body_view {A = A} c.args.function.now.body)) named c.in_ok-inputs.ensures c.in_ok-outputs.ensures c.in_ok-body.ensures.listed
