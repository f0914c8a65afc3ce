use Rattle.std.proofs.Common.{◌++◌, List, ap, ap₂, subst, ◌∙◌}
use Rattle.std.specs.List.{flat_map}
use Rattle.flow.specs.Cells.{AnchorsGrow, function_anchors}
use Rattle.flow.proofs.Growing.{among_each}
use Rattle.lowering.specs.Nodes.{function_nodes}
use Rattle.syntax_trees.specs.View.{tree_of}
use Rattle.flow.specs.declared.script.Function.{Function}
use Rattle.flow.specs.Listed.{Listed, Shown, functions_shown, whole}
use Rattle.lowering.specs.Listed.{composites_shown}
use Rattle.lowering.proofs.script.lower.Goals as goal

pub returns-clause-shown : goal.returns-clause-shown
returns-clause-shown g c =
    let A = g.row.A.Denot in
    ap₂ (λ (b : Listed) (fs : List Shown). whole b ++ fs) c.in_ok-body.ensures.listed
    (c.in_ok-add_functions.ensures.shown ∙ ap (λ (fs : List (Function A)). functions_shown fs ++ composites_shown (tree_of {A = A} c.args.script.now)) c.new-functions.ensures.items)

pub returns-clause-cells : goal.returns-clause-cells
returns-clause-cells g c =
    let A = g.row.A.Denot in
    let now = flat_map (function_anchors {A = A}) c.add_functions.new.found.items in
    let inside = subst (λ (fs : List (Function A)). AnchorsGrow (flat_map function_anchors fs) now (function_nodes (tree_of {A = A} c.args.script.now))) c.new-functions.ensures.items c.in_ok-add_functions.ensures.cells in
    among_each _ _ _ _ c.in_ok-body.ensures.cells inside.each
