use Rattle.std.proofs.Common.{Option, option_map, ap, sym}
use Rattle.syntax_trees.specs.declared.tree.Expr.{Expr}
use Rattle.syntax_trees.specs.View.{expression_view}
use Rattle.flow.proofs.Growing.{among_equal, among_none, among_then}
use Rattle.lowering.specs.Nodes.{expression_nodes, maybe_nodes}
use Rattle.lowering.proofs.statement.step.Goals as goal

pub returns-in-None-clause-cells : goal.returns-in-None-clause-cells
returns-in-None-clause-cells g c = among_none _

pub returns-in_ok-outer-in-Some-clause-cells : goal.returns-in_ok-outer-in-Some-clause-cells
returns-in_ok-outer-in-Some-clause-cells g c =
    let A = g.row.A.Denot in
    among_then c.in_ok-outer-in-Some.ensures.cells (among_equal (sym (ap (λ (o : Option (Expr A)). maybe_nodes expression_nodes (option_map expression_view o)) c.in-Some.is)))
