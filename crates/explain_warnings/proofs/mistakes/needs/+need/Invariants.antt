use Rattle.std.proofs.Common.{◌≡◌, map, drop}
use Rattle.syntax_trees.specs.View.{expression_view}
use Rattle.language.specs.Tree.{expressions_of}
use Rattle.explain_warnings.specs.Forms.{some_needs}
use Rattle.explain_warnings.proofs.mistakes.needs.+need.Given as goal

abbrev pub invariant-some_needs-loop-expr : goal.invariant-some_needs-loop-expr
invariant-some_needs-loop-expr g l =
    some_needs l.name (expressions_of (map expression_view l.exprs.items))
    ≡ some_needs l.name (expressions_of (map expression_view (drop l.expr-index l.exprs.items)))
