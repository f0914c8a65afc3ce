use Rattle.std.proofs.Common.{◌≡◌, map, drop, None}
use Rattle.std.specs.Prelude.{option_map}
use Rattle.syntax_trees.specs.View.{expression_view}
use Rattle.language.specs.Tree.{expressions_of}
use Rattle.explain_warnings.specs.Guards.{some_guarded}
use Rattle.explain_warnings.proofs.mistakes.guards.some_guarded.Given as goal

abbrev pub invariant-loop-operand : goal.invariant-loop-operand
invariant-loop-operand g l =
    some_guarded l.connective None (expressions_of (map expression_view l.operands))
    ≡ some_guarded l.connective (option_map (λ e. expression_view e.now) l.before) (expressions_of (map expression_view (drop l.operand-index l.operands)))
