use Rattle.std.proofs.Common.{map, ◌++◌}
use Rattle.syntax_trees.specs.View.{expression_view}
use Rattle.language.specs.Resolved.{operands_of, arguments_of}
use Rattle.types.specs.Typed.{table_of}
use Rattle.flow.specs.View.{expr_view, names_view}
use Rattle.lowering.specs.Nodes.{PartsStand, all_nodes}
use Rattle.lowering.proofs.Operands.{SoFar, before, from_on}
use Rattle.lowering.proofs.expression.+expression.Given as goal

abbrev pub invariant-operands-loop-i : goal.invariant-operands-loop-i
invariant-operands-loop-i g l =
    SoFar l.fn.parts.items l.parts.items (before (map expr_view l.found.items))
    (operands_of (table_of l.typed) (from_on expression_view l.exprs.items l.fn.from)) (operands_of (table_of l.typed) (from_on expression_view l.exprs.items l.i))
    × PartsStand l.fn.parts.items l.parts.items (all_nodes (map expression_view l.exprs.items))

abbrev pub invariant-inputs-loop-expr : goal.invariant-inputs-loop-expr
invariant-inputs-loop-expr g l =
    SoFar l.fn.parts.items l.parts.items (λ ys. names_view l.found.items ++ ys)
    (arguments_of (table_of l.typed) (from_on expression_view l.exprs.items 0)) (arguments_of (table_of l.typed) (from_on expression_view l.exprs.items l.expr-index))
    × PartsStand l.fn.parts.items l.parts.items (all_nodes (map expression_view l.exprs.items))
