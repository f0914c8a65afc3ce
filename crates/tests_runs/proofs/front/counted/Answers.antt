use Rattle.std.proofs.Common.{◌≡◌, ◌++◌, map, subst}
use Rattle.std.specs.Prelude.{Option, IfSome}
use Rattle.flow.specs.Cells.{AreAmong, anchors_of}
use Rattle.flow.specs.Listed.{shown_of}
use Rattle.flow.specs.Shapes.{declared_of, kinds_of}
use Rattle.flow.specs.View.{core_of}
use Rattle.flow.specs.declared.script.Flow.{Flow}
use Rattle.language.specs.Resolved.{core}
use Rattle.language.specs.Scopes.{signatures}
use Rattle.lowering.specs.Listed.{shown}
use Rattle.lowering.specs.Nodes.{nodes_of}
use Rattle.lowering.specs.Shapes.{flagged, function_declarations, kinds_of_signature, own_declarations}
use Rattle.syntax_trees.specs.View.{tree_of}
use Rattle.types.specs.Typed.{table_of}
use Rattle.wait_merge.specs.Merged.{IsMerged}
use Rattle.tests_runs.proofs.Folds.{flow_of_fold}
use Rattle.tests_runs.proofs.front.counted.Goals as goal

pub rights-requires : goal.rights-requires
rights-requires g c =
    let core_is = subst (λ (o : Option (Flow g.row.A.Denot)). IfSome o (λ flow. core_of flow ≡ core (table_of c.args.typed.now) (tree_of c.args.folded.now))) c.in-Some.is c.in_ok-flow.ensures.core in
    let declared_is = subst (λ (o : Option (Flow g.row.A.Denot)). IfSome o (λ flow. declared_of flow ≡ flagged (own_declarations (tree_of c.args.folded.now)) ++ flagged (function_declarations (tree_of c.args.folded.now)))) c.in-Some.is c.in_ok-flow.ensures.declared in
    let kinds_are = subst (λ (o : Option (Flow g.row.A.Denot)). IfSome o (λ flow. kinds_of flow ≡ map kinds_of_signature (signatures (tree_of c.args.folded.now)))) c.in-Some.is c.in_ok-flow.ensures.kinds in
    let is_merged = subst (λ (o : Option (Flow g.row.A.Denot)). IfSome o (λ flow. IsMerged flow)) c.in-Some.is c.in_ok-flow.ensures.merged in
    let shown_is = subst (λ (o : Option (Flow g.row.A.Denot)). IfSome o (λ flow. shown_of flow ≡ shown (tree_of c.args.folded.now))) c.in-Some.is c.in_ok-flow.ensures.shown in
    let cells_are = subst (λ (o : Option (Flow g.row.A.Denot)). IfSome o (λ flow. AreAmong (anchors_of flow) (nodes_of (tree_of c.args.folded.now)))) c.in-Some.is c.in_ok-flow.ensures.cells in
    flow_of_fold (table_of c.args.typed.now) (tree_of c.args.folded.now) c.in-Some.flow c.requires core_is declared_is kinds_are shown_is cells_are is_merged
