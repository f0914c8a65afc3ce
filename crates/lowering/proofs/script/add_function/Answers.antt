use Rattle.std.proofs.Common.{◌++◌, ◌∷◌, [], ◌≡◌, Bool, List, map, ap, sym, ◌∙◌}
use Rattle.std.specs.List.{flat_map}
use Rattle.flow.specs.Cells.{Anchor, function_anchors}
use Rattle.flow.proofs.Growing.{among_equal, among_then, grows_among, grows_by}
use Rattle.lowering.specs.Nodes.{body_nodes, function_nodes}
use Rattle.std.proofs.lemmas.List.{append-nil, map-append}
use Rattle.syntax_trees.specs.declared.tree.Function.{Function as Composite'}
use Rattle.language.specs.Core as core
use Rattle.language.specs.Resolved.{functions_of}
use Rattle.language.specs.Tree.{Part, function}
use Rattle.syntax_trees.specs.View.{composite_of, part_of}
use Rattle.types.specs.Typed.{table_of}
use Rattle.language.specs.Scopes.{signature_of, signatures}
use Rattle.language_accepted.specs.Types.{body_declarations}
use Rattle.flow.specs.Shapes.{functions_declared, kinds_of_function}
use Rattle.flow.specs.View.{function_view}
use Rattle.lowering.specs.Shapes.{flagged, function_declarations, kinds_of_signature}
use Rattle.std.proofs.lemmas.Grind.{flat_map-append}
use Rattle.flow.specs.Listed.{function_shown, functions_shown}
use Rattle.lowering.specs.Listed.{composite_shown}
use Rattle.lowering.proofs.Declaring.{one_more_function}
use Rattle.lowering.proofs.Showing.{one_shown}
use Rattle.lowering.specs.View.{function_core}
use Rattle.lowering.proofs.script.add_function.Goals as goal

pub returns-in_ok-push-in-Function-clause-core : goal.returns-in_ok-push-in-Function-clause-core
returns-in_ok-push-in-Function-clause-core g c =
    let A = g.row.A.Denot in
    let tb = table_of c.args.typed.now in
    let before = map (function_view {A = A}) c.args.found.now.items in
    ap (map (function_view {A = A})) c.in_ok-push-in-Function.ensures.items
    ∙ map-append (function_view {A = A}) c.args.found.now.items (c.in_ok-function-in-Function.field-0 ∷ [])
    ∙ ap (λ (y : core.Function). before ++ y ∷ []) (c.in_ok-function-in-Function.ensures.core ∙ ap (λ (f : Composite' A). function_core tb (composite_of f)) c.deref.ensures)
    ∙ ap (λ (p : Part). before ++ functions_of tb (p ∷ [])) (sym (ap part_of c.in-Function.is))

pub returns-in_ok-push-in-Function-clause-declared : goal.returns-in_ok-push-in-Function-clause-declared
returns-in_ok-push-in-Function-clause-declared g c =
    let A = g.row.A.Denot in
    let before = functions_declared c.args.found.now.items in
    let inside : (f : Composite' A) → flagged (function_declarations (function (composite_of f) ∷ [])) ≡ flagged (body_declarations (composite_of f).body) = λ f. ap flagged (append-nil (body_declarations (composite_of f).body)) in
    ap (functions_declared {A = A}) c.in_ok-push-in-Function.ensures.items
    ∙ one_more_function c.args.found.now.items c.in_ok-function-in-Function.field-0
    ∙ ap (λ ds. before ++ ds)
    (c.in_ok-function-in-Function.ensures.declared
    ∙ ap (λ (f : Composite' A). flagged (body_declarations (composite_of f).body)) c.deref.ensures
    ∙ sym (inside c.in-Function.one.value))
    ∙ ap (λ (p : Part). before ++ flagged (function_declarations (p ∷ []))) (sym (ap part_of c.in-Function.is))

pub returns-in_ok-push-in-Function-clause-kinds : goal.returns-in_ok-push-in-Function-clause-kinds
returns-in_ok-push-in-Function-clause-kinds g c =
    let A = g.row.A.Denot in
    let before = map (kinds_of_function {A = A}) c.args.found.now.items in
    ap (map (kinds_of_function {A = A})) c.in_ok-push-in-Function.ensures.items
    ∙ map-append (kinds_of_function {A = A}) c.args.found.now.items (c.in_ok-function-in-Function.field-0 ∷ [])
    ∙ ap (λ (k : List Bool × List Bool). before ++ k ∷ []) (c.in_ok-function-in-Function.ensures.kinds ∙ ap (λ (f : Composite' A). kinds_of_signature (signature_of (composite_of f))) c.deref.ensures)
    ∙ ap (λ (p : Part). before ++ map kinds_of_signature (signatures (p ∷ []))) (sym (ap part_of c.in-Function.is))

pub returns-in_ok-push-in-Function-clause-shown : goal.returns-in_ok-push-in-Function-clause-shown
returns-in_ok-push-in-Function-clause-shown g c =
    let A = g.row.A.Denot in
    one_shown (composite_of c.in-Function.one.value) (part_of c.args.item.now) (functions_shown {A = A} c.args.found.now.items)
    _ (function_shown {A = A} c.in_ok-function-in-Function.field-0)
    (ap (functions_shown {A = A}) c.in_ok-push-in-Function.ensures.items
    ∙ flat_map-append (function_shown {A = A}) c.args.found.now.items (c.in_ok-function-in-Function.field-0 ∷ []))
    (c.in_ok-function-in-Function.ensures.shown ∙ ap (λ (f : Composite' A). composite_shown (composite_of f)) c.deref.ensures)
    (ap part_of c.in-Function.is)

pub returns-in_ok-push-in-Function-clause-cells : goal.returns-in_ok-push-in-Function-clause-cells
returns-in_ok-push-in-Function-clause-cells g c =
    let A = g.row.A.Denot in
    let made = c.in_ok-function-in-Function.field-0 in
    let old = flat_map (function_anchors {A = A}) c.args.found.now.items in
    let added = ap (flat_map (function_anchors {A = A})) c.in_ok-push-in-Function.ensures.items ∙ flat_map-append (function_anchors {A = A}) c.args.found.now.items (made ∷ [])
    ∙ ap (λ (xs : List Anchor). old ++ xs) (append-nil (function_anchors {A = A} made)) in
    grows_among (grows_by old _ (function_anchors {A = A} made) added)
    (among_then c.in_ok-function-in-Function.ensures.cells
    (among_equal (ap (λ (f : Composite' A). body_nodes (composite_of f).body) c.deref.ensures ∙ sym (append-nil (body_nodes (composite_of {A = A} c.in-Function.one.value).body))
    ∙ ap (λ (p : Part). function_nodes (p ∷ [])) (sym (ap part_of c.in-Function.is)))))
