use Rattle.std.proofs.Common.{◌≡◌, map, drop}
use Rattle.syntax_trees.specs.View.{expression_view}
use Rattle.language.specs.Tree.{expressions_of}
use Rattle.explain_warnings.specs.Guards.{some_divides}
use Rattle.explain_warnings.proofs.mistakes.guards.+divide.Given as goal

abbrev pub invariant-some_divides-loop-expr : goal.invariant-some_divides-loop-expr
invariant-some_divides-loop-expr g l =
    some_divides l.name (expressions_of (map expression_view l.exprs.items))
    ≡ some_divides l.name (expressions_of (map expression_view (drop l.expr-index l.exprs.items)))
