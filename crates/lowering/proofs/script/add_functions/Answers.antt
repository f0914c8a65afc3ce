use Rattle.std.proofs.Common.{◌++◌, ◌∷◌, [], map, refl, arith}
use Rattle.std.proofs.lemmas.Grind.{common_steps}
use Rattle.language.specs.Tree.{Part, Tree}
use Rattle.syntax_trees.specs.View.{part_of}
use Rattle.language.specs.Resolved.{functions_of}
use Rattle.types.specs.Typed.{table_of}
use Rattle.language.specs.Scopes.{signatures}
use Rattle.flow.specs.Shapes.{functions_declared, kinds_of_function}
use Rattle.flow.specs.View.{function_view}
use Rattle.lowering.specs.Shapes.{flagged, function_declarations, kinds_of_signature}
use Rattle.flow.specs.Listed.{functions_shown}
use Rattle.lowering.specs.Listed.{composites_shown}
use Rattle.flow.proofs.Growing.{grows_again, grows_among, grows_none}
use Rattle.lowering.proofs.Anchors.{function_at}
use Rattle.lowering.proofs.Declaring.{function_next, kinds_next}
use Rattle.lowering.proofs.Showing.{shown_next}
use Rattle.lowering.proofs.Statements.{function_first}
use Rattle.lowering.proofs.Walks.{walked_more, walked_all}
use Rattle.lowering.proofs.script.add_functions.Goals as goal

pub loop-item-init : goal.loop-item-init
loop-item-init g c = (refl, refl, refl, refl, grows_none _ _)

pub loop-item-preserved : goal.loop-item-preserved
loop-item-preserved g c =
    let A = g.row.A.Denot in
    let tb = table_of c.args.typed.now in (
      walked_more (part_of {A = A}) (λ (p : Part). functions_of tb (p ∷ [])) (functions_of tb) (function_first tb)
          (map function_view c.args.found.now.items ++ functions_of tb (map (part_of {A = A}) c.args.items.now.items))
          (map function_view c.loop-item.found.items) (map function_view c.add_function.new.found.items) c.args.items.now.items c.loop-item.item-index c.item-item.result
          c.loop-item.invariant.0 (grind (arith, common_steps)) (grind (arith, common_steps)) c.in_ok-add_function.ensures.core,
      walked_more (part_of {A = A}) (λ (p : Part). flagged (function_declarations (p ∷ []))) (λ (ps : Tree). flagged (function_declarations ps)) function_next
          (functions_declared c.args.found.now.items ++ flagged (function_declarations (map (part_of {A = A}) c.args.items.now.items)))
          (functions_declared c.loop-item.found.items) (functions_declared c.add_function.new.found.items) c.args.items.now.items c.loop-item.item-index c.item-item.result
          c.loop-item.invariant.1 (grind (arith, common_steps)) (grind (arith, common_steps)) c.in_ok-add_function.ensures.declared,
      walked_more (part_of {A = A}) (λ (p : Part). map kinds_of_signature (signatures (p ∷ []))) (λ (ps : Tree). map kinds_of_signature (signatures ps)) kinds_next
          (map kinds_of_function c.args.found.now.items ++ map kinds_of_signature (signatures (map (part_of {A = A}) c.args.items.now.items)))
          (map kinds_of_function c.loop-item.found.items) (map kinds_of_function c.add_function.new.found.items) c.args.items.now.items c.loop-item.item-index c.item-item.result
          c.loop-item.invariant.2 (grind (arith, common_steps)) (grind (arith, common_steps)) c.in_ok-add_function.ensures.kinds,
      walked_more (part_of {A = A}) (λ (p : Part). composites_shown (p ∷ [])) composites_shown shown_next
          (functions_shown c.args.found.now.items ++ composites_shown (map (part_of {A = A}) c.args.items.now.items))
          (functions_shown c.loop-item.found.items) (functions_shown c.add_function.new.found.items) c.args.items.now.items c.loop-item.item-index c.item-item.result
          c.loop-item.invariant.3 (grind (arith, common_steps)) (grind (arith, common_steps)) c.in_ok-add_function.ensures.shown,
      grows_again c.loop-item.invariant.4
          (grows_among c.in_ok-add_function.ensures.cells (function_at (part_of {A = A}) c.args.items.now.items c.loop-item.item-index c.item-item.result (grind (arith, common_steps)) (grind (arith, common_steps)))),
    )

pub returns-clause-core : goal.returns-clause-core
returns-clause-core g c =
    let A = g.row.A.Denot in
    let tb = table_of c.args.typed.now in
    walked_all (part_of {A = A}) (functions_of tb) refl
    (map function_view c.args.found.now.items ++ functions_of tb (map (part_of {A = A}) c.args.items.now.items))
    (map function_view c.loop-item.found.items) c.args.items.now.items c.loop-item.item-index c.loop-item.invariant.0 (grind (arith, common_steps))

pub returns-clause-declared : goal.returns-clause-declared
returns-clause-declared g c =
    let A = g.row.A.Denot in
    walked_all (part_of {A = A}) (λ (ps : Tree). flagged (function_declarations ps)) refl
    (functions_declared c.args.found.now.items ++ flagged (function_declarations (map (part_of {A = A}) c.args.items.now.items)))
    (functions_declared c.loop-item.found.items) c.args.items.now.items c.loop-item.item-index c.loop-item.invariant.1 (grind (arith, common_steps))

pub returns-clause-kinds : goal.returns-clause-kinds
returns-clause-kinds g c =
    let A = g.row.A.Denot in
    walked_all (part_of {A = A}) (λ (ps : Tree). map kinds_of_signature (signatures ps)) refl
    (map kinds_of_function c.args.found.now.items ++ map kinds_of_signature (signatures (map (part_of {A = A}) c.args.items.now.items)))
    (map kinds_of_function c.loop-item.found.items) c.args.items.now.items c.loop-item.item-index c.loop-item.invariant.2 (grind (arith, common_steps))

pub returns-clause-shown : goal.returns-clause-shown
returns-clause-shown g c =
    let A = g.row.A.Denot in
    walked_all (part_of {A = A}) composites_shown refl
    (functions_shown c.args.found.now.items ++ composites_shown (map (part_of {A = A}) c.args.items.now.items))
    (functions_shown c.loop-item.found.items) c.args.items.now.items c.loop-item.item-index c.loop-item.invariant.3 (grind (arith, common_steps))

pub returns-clause-cells : goal.returns-clause-cells
returns-clause-cells g c = c.loop-item.invariant.4
