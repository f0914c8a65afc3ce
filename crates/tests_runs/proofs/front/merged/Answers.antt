use Rattle.std.proofs.Common.{List, subst, sym}
use Rattle.std.specs.Prelude.{Option, IfSome}
use Rattle.flow.specs.Cells.{Anchor, AreAmong, anchors_of}
use Rattle.flow.specs.declared.script.Flow.{Flow}
use Rattle.lowering.specs.Nodes.{nodes_of}
use Rattle.syntax_trees.specs.View.{tree_of}
use Rattle.tests_runs.proofs.front.merged.Goals as goal

pub returns-in-Ok-clause-cells : goal.returns-in-Ok-clause-cells
returns-in-Ok-clause-cells g c =
    let lowered = subst (λ (o : Option (Flow g.row.A.Denot)). IfSome o (λ flow. AreAmong (anchors_of flow) (nodes_of (tree_of c.args.script.now)))) c.in-Some.is c.in_ok-flow.ensures.cells in
    subst (λ (cells : List Anchor). AreAmong cells (nodes_of (tree_of c.args.script.now))) (sym c.in-Ok.ensures.cells) lowered
