use Rattle.std.proofs.Common.{◌≡◌, IsTrue, map, take}
use Rattle.flow.specs.View.{statement_view}
use Rattle.flow.specs.Shapes.{statement_declared}
use Rattle.flow.specs.Cells.{statement_anchors}
use Rattle.flow.specs.Listed.{statement_listed}
use Rattle.wait_merge.specs.Merged.{all_merged, statement_seen}
use Rattle.wait_merge.proofs.statement.+merged.Given as goal

abbrev pub invariant-each-loop-i : goal.invariant-each-loop-i
invariant-each-loop-i g l =
    goal.unvisited-each-loop-i g l
    × (map statement_view l.statements.items ≡ map statement_view l.initial.statements.items)
    × (map statement_declared l.statements.items ≡ map statement_declared l.initial.statements.items)
    × (map statement_listed l.statements.items ≡ map statement_listed l.initial.statements.items)
    × (map statement_anchors l.statements.items ≡ map statement_anchors l.initial.statements.items)
    × IsTrue (all_merged (map statement_seen (take l.i l.statements.items)))
