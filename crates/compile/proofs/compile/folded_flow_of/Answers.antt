use Rattle.syntax_trees.specs.View.{tree_of}
use Rattle.types.specs.Typed.{table_of}
use Rattle.constant_fold.specs.Folded.{folded_tree}
use Rattle.compile.proofs.Flows.{flow_for_same}
use Rattle.compile.proofs.compile.folded_flow_of.Goals as goal

pub returns : goal.returns
returns g c =
    flow_for_same {A = g.row.A.Denot} (table_of c.args.accepted.typed) (folded_tree (tree_of c.args.accepted.script)) (tree_of c.in_ok-folded.folded) c.in_ok-flow.flow c.in_ok-merged.merged
    c.in_ok-folded.ensures
    (record {
      core_is = c.in_ok-flow.ensures.core;
      declared_is = c.in_ok-flow.ensures.declared;
      kinds_are = c.in_ok-flow.ensures.kinds;
      shown_is = c.in_ok-flow.ensures.shown;
      cells_are = c.in_ok-flow.ensures.cells;
    })
    (record {
      core_stays = c.in_ok-merged.ensures.core;
      declared_stays = c.in_ok-merged.ensures.declared;
      kinds_stay = c.in_ok-merged.ensures.kinds;
      shown_stays = c.in_ok-merged.ensures.shown;
      cells_stay = c.in_ok-merged.ensures.cells;
      merged = c.in_ok-merged.ensures.merged;
    })
