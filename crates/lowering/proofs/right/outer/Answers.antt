use Rattle.syntax_trees.specs.declared.tree.Expr.{out-Expr}
use Rattle.syntax_trees.specs.View.{expression_view}
use Rattle.lowering.specs.Nodes.{expression_nodes}
use Rattle.lowering.proofs.Anchors.{node_among, outer_stands}
use Rattle.lowering.proofs.right.outer.Goals as goal

pub returns-clause-cells : goal.returns-clause-cells
returns-clause-cells g c =
    let A = g.row.A.Denot in
    let e = out-Expr A c.args.expr.now in
    outer_stands c.new-parts.result.items c.form.new.parts.items (record { node = e.number; at = e.first.from }) (expression_nodes (expression_view {A = A} c.args.expr.now))
    c.new-parts.ensures.items c.in_ok-form.ensures.cells (node_among A c.args.expr.now)
