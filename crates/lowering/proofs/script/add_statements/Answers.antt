use Rattle.std.proofs.Common.{◌++◌, ◌∷◌, [], map, refl, arith}
use Rattle.std.proofs.lemmas.Grind.{common_steps}
use Rattle.language.specs.Tree.{Part, Tree}
use Rattle.syntax_trees.specs.View.{part_of}
use Rattle.types.specs.Typed.{table_of}
use Rattle.flow.specs.View.{statements_view}
use Rattle.lowering.specs.Shapes.{declared_by, flagged, own_declarations}
use Rattle.lowering.specs.View.{own_statements}
use Rattle.lowering.specs.Listed.{listed_by, own_listed}
use Rattle.flow.proofs.Growing.{grows_again, grows_among, grows_none}
use Rattle.lowering.proofs.Anchors.{own_at}
use Rattle.lowering.proofs.Declaring.{own_next}
use Rattle.lowering.proofs.Showing as shows
use Rattle.lowering.proofs.Statements.{part_first}
use Rattle.lowering.proofs.Walks.{walked_more, walked_all}
use Rattle.lowering.proofs.script.add_statements.Goals as goal

pub loop-item-init : goal.loop-item-init
loop-item-init g c = (refl, refl, refl, grows_none _ _)

pub loop-item-preserved : goal.loop-item-preserved
loop-item-preserved g c =
    let tb = table_of c.args.typed.now in (
      walked_more (part_of {A = g.row.A.Denot}) (λ (p : Part). own_statements tb (p ∷ [])) (own_statements tb) (part_first tb)
          (statements_view c.args.found.now.items ++ own_statements tb (map (part_of {A = g.row.A.Denot}) c.args.items.now.items))
          (statements_view c.loop-item.found.items) (statements_view c.add_statement.new.found.items) c.args.items.now.items c.loop-item.item-index c.item-item.result
          c.loop-item.invariant.0 (grind (arith, common_steps)) (grind (arith, common_steps)) c.in_ok-add_statement.ensures.core,
      walked_more (part_of {A = g.row.A.Denot}) (λ (p : Part). flagged (own_declarations (p ∷ []))) (λ (ps : Tree). flagged (own_declarations ps)) own_next
          (declared_by c.args.found.now.items ++ flagged (own_declarations (map (part_of {A = g.row.A.Denot}) c.args.items.now.items)))
          (declared_by c.loop-item.found.items) (declared_by c.add_statement.new.found.items) c.args.items.now.items c.loop-item.item-index c.item-item.result
          c.loop-item.invariant.1 (grind (arith, common_steps)) (grind (arith, common_steps)) c.in_ok-add_statement.ensures.declared,
      walked_more (part_of {A = g.row.A.Denot}) (λ (p : Part). own_listed (p ∷ [])) own_listed shows.own_next
          (listed_by c.args.found.now.items ++ own_listed (map (part_of {A = g.row.A.Denot}) c.args.items.now.items))
          (listed_by c.loop-item.found.items) (listed_by c.add_statement.new.found.items) c.args.items.now.items c.loop-item.item-index c.item-item.result
          c.loop-item.invariant.2 (grind (arith, common_steps)) (grind (arith, common_steps)) c.in_ok-add_statement.ensures.listed,
      grows_again c.loop-item.invariant.3
          (grows_among c.in_ok-add_statement.ensures.cells (own_at (part_of {A = g.row.A.Denot}) c.args.items.now.items c.loop-item.item-index c.item-item.result (grind (arith, common_steps)) (grind (arith, common_steps)))),
    )

pub returns-clause-core : goal.returns-clause-core
returns-clause-core g c =
    let tb = table_of c.args.typed.now in
    walked_all (part_of {A = g.row.A.Denot}) (own_statements tb) refl
    (statements_view c.args.found.now.items ++ own_statements tb (map (part_of {A = g.row.A.Denot}) c.args.items.now.items))
    (statements_view c.loop-item.found.items) c.args.items.now.items c.loop-item.item-index c.loop-item.invariant.0 (grind (arith, common_steps))

pub returns-clause-declared : goal.returns-clause-declared
returns-clause-declared g c =
    walked_all (part_of {A = g.row.A.Denot}) (λ (ps : Tree). flagged (own_declarations ps)) refl
    (declared_by c.args.found.now.items ++ flagged (own_declarations (map (part_of {A = g.row.A.Denot}) c.args.items.now.items)))
    (declared_by c.loop-item.found.items) c.args.items.now.items c.loop-item.item-index c.loop-item.invariant.1 (grind (arith, common_steps))

pub returns-clause-listed : goal.returns-clause-listed
returns-clause-listed g c =
    walked_all (part_of {A = g.row.A.Denot}) own_listed refl
    (listed_by c.args.found.now.items ++ own_listed (map (part_of {A = g.row.A.Denot}) c.args.items.now.items))
    (listed_by c.loop-item.found.items) c.args.items.now.items c.loop-item.item-index c.loop-item.invariant.2 (grind (arith, common_steps))

pub returns-clause-cells : goal.returns-clause-cells
returns-clause-cells g c = c.loop-item.invariant.3
