use Rattle.std.proofs.Common.{◌≡◌, drop}
use Rattle.flow.specs.View.{exprs_view}
use Rattle.flow.specs.Names.{exprs_names}
use Rattle.flow.specs.Tests.{are_declared}
use Rattle.flow.specs.Viewed.{owners_of}
use Rattle.flow.proofs.naming.+expression.Given as goal

abbrev pub invariant-are_expressions_fit-loop-expression : goal.invariant-are_expressions_fit-loop-expression
invariant-are_expressions_fit-loop-expression g l =
    are_declared (owners_of {A = g.row.A.Denot} l.scopes) (exprs_names (exprs_view l.expressions.items))
    ≡ are_declared (owners_of {A = g.row.A.Denot} l.scopes) (exprs_names (exprs_view (drop l.expression-index l.expressions.items)))
