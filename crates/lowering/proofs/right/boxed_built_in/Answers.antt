use Rattle.std.proofs.Common.{arith, ◌≡◌, ◌∷◌, [], List, map, ap, ◌∙◌}
use Rattle.std.proofs.lemmas.Grind.{common_steps}
use Rattle.syntax_trees.specs.View.{calling_of, expression_view}
use Rattle.language.specs.Tree.{expressions_of}
use Rattle.language.specs.Table as table
use Rattle.language.specs.Resolved as rules
use Rattle.types.specs.Typed.{table_of, builtin_name}
use Rattle.flow.specs.declared.cell.OuterCell.{OuterCell}
use Rattle.flow.specs.View.{outer_view}
use Rattle.flow.specs.Cells.{Anchor, outer_anchors}
use Rattle.flow.proofs.Growing.{among_as, among_left, among_right, grows_among}
use Rattle.lowering.specs.Nodes.{all_nodes}
use Rattle.lowering.proofs.Anchors.{outer_stands}
use Rattle.lowering.proofs.Actions.{found_outer}
use Rattle.lowering.proofs.right.boxed_built_in.Goals as goal

pub returns-clause-outer : goal.returns-clause-outer
returns-clause-outer g c =
    let A = g.row.A.Denot in
    let t = table_of c.args.typed.now in
    let k = calling_of {A = A} c.args.call.now in
    let es = expressions_of k.arguments in
    let w = rules.call_form t k.name (table.built_in (builtin_name c.args.builtin)) es ([], []) (rules.operands_of t es) in
    let found : OuterCell A = record { parts = c.built_in.new.parts; cell = record { node = c.args.call.now.number; at = c.args.call.now.first.from; form = c.in_ok-form.form } } in
    let boxed : c.in_ok-new.field-0.value ≡ found = grind (arith, common_steps) in
    ap outer_view boxed
    ∙ found_outer c.args.call.now.number c.new-parts.result.items c.built_in.new.parts.items c.in_ok-form.form w c.new-parts.ensures.items (c.in_ok-form.ensures.leaves k.name ([], []))

pub returns-clause-cells : goal.returns-clause-cells
returns-clause-cells g c =
    let A = g.row.A.Denot in
    let call = c.args.call.now in
    let nodes : List Anchor = all_nodes (map (expression_view {A = A}) call.arguments.items) in
    let own : Anchor = record { node = call.number; at = call.first.from } in
    let found : OuterCell A = record { parts = c.built_in.new.parts; cell = record { node = call.number; at = call.first.from; form = c.in_ok-form.form } } in
    let boxed : c.in_ok-new.field-0.value ≡ found = grind (arith, common_steps) in
    among_as (ap (outer_anchors {A = A}) boxed)
    (outer_stands c.new-parts.result.items c.built_in.new.parts.items own (own ∷ nodes) c.new-parts.ensures.items (grows_among c.in_ok-form.ensures.cells (among_right (own ∷ []) nodes)) (among_left (own ∷ []) nodes))
