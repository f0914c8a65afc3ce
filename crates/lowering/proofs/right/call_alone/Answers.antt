use Rattle.std.proofs.Common.{arith, to_z, of_z, w32, ◌≡◌, List, map, ap, subst, ◌∙◌}
use Rattle.std.proofs.lemmas.Grind.{common_steps}
use Rattle.syntax_trees.specs.View.{word_of, expression_view}
use Rattle.language.specs.Tree.{expressions_of}
use Rattle.language.specs.Core as core
use Rattle.language.specs.Resolved as rules
use Rattle.types.specs.Typed.{table_of}
use Rattle.flow.specs.View.{call_view, parts_view, names_view}
use Rattle.flow.specs.declared.cell.CellPart.{CellPart}
use Rattle.flow.specs.Cells.{AnchorsGrow, parts_anchors}
use Rattle.flow.proofs.Anchors.{call_anchors}
use Rattle.flow.proofs.Growing.{among_as}
use Rattle.lowering.specs.Nodes.{all_nodes}
use Rattle.lowering.proofs.Actions.{view_call_alone, found_call}
use Rattle.lowering.proofs.right.call_alone.Goals as goal

pub returns-clause-core : goal.returns-clause-core
returns-clause-core g c =
    let A = g.row.A.Denot in
    let t = table_of c.args.typed.now in
    let es = expressions_of (map (expression_view {A = A}) c.args.arguments.now.items) in
    let same : to_z w32 (of_z w32 c.args.priority) ≡ c.args.priority = grind (arith, common_steps) in
    let boxed : c.in_ok-new.field-0.value ≡ c.in_ok-call.call = grind (arith, common_steps) in
    view_call_alone (to_z w32 (of_z w32 c.args.priority)) c.call_of.new.parts c.in_ok-new.field-0
    ∙ ap (λ p. core.call_alone p (parts_view c.call_of.new.parts.items) (call_view c.in_ok-new.field-0.value)) same
    ∙ ap (λ k. core.call_alone c.args.priority (parts_view c.call_of.new.parts.items) (call_view k)) boxed
    ∙ found_call c.args.priority (word_of {A = A} c.args.name.now) c.args.function (rules.arguments_of t es) (names_view c.args.outputs.items) c.new-parts.result.items c.call_of.new.parts.items c.in_ok-call.call
    c.new-parts.ensures.items c.in_ok-call.ensures.leaves

pub returns-clause-cells : goal.returns-clause-cells
returns-clause-cells g c =
    let A = g.row.A.Denot in
    among_as (call_anchors _ c.call_of.new.parts c.in_ok-new.field-0)
    (subst (λ (ps : List (CellPart A)). AnchorsGrow (parts_anchors ps) (parts_anchors c.call_of.new.parts.items) (all_nodes (map (expression_view {A = A}) c.args.arguments.now.items))) c.new-parts.ensures.items c.in_ok-call.ensures.cells).each
