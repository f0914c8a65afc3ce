use Rattle.std.proofs.Common.{◌≡◌, ◌≤◌, ◌-◌, map, drop, length}
use Rattle.language.specs.Tree.{expressions_of}
use Rattle.syntax_trees.specs.View.{expression_view}
use Rattle.types.specs.Known.{type_of, around_of}
use Rattle.types.specs.Functions.{signatures_of}
use Rattle.types.specs.Expressions as checks
use Rattle.types.proofs.expressions.+expr.Given as goal

abbrev pub invariant-arguments-loop-i : goal.invariant-arguments-loop-i
invariant-arguments-loop-i g l =
    checks.arguments (signatures_of l.functions) (around_of l.scope) (expressions_of (map expression_view (drop l.from l.given.items))) (map type_of l.inputs) l.at l.fn.settled.items
    ≡ checks.arguments (signatures_of l.functions) (around_of l.scope) (expressions_of (map expression_view (drop l.i l.given.items))) (map type_of (drop (l.i - l.from) l.inputs)) l.at l.settled.items

abbrev pub invariant-elements-loop-i : goal.invariant-elements-loop-i
invariant-elements-loop-i g l =
    checks.elements (signatures_of l.functions) (around_of l.scope) (expressions_of (map expression_view l.values.items)) l.wanted l.fn.settled.items
    ≡ checks.elements (signatures_of l.functions) (around_of l.scope) (expressions_of (map expression_view (drop l.i l.values.items))) l.wanted l.settled.items

abbrev pub invariant-further-loop-i : goal.invariant-further-loop-i
invariant-further-loop-i g l = record {
  walks : checks.further (signatures_of l.functions) (around_of l.scope) (expressions_of (map expression_view (drop l.from l.operands.items))) l.operators l.base l.given l.fn.at l.fn.settled.items
      ≡ checks.further (signatures_of l.functions) (around_of l.scope) (expressions_of (map expression_view (drop l.i l.operands.items))) (drop (l.i - l.from) l.operators) l.base l.given l.before l.settled.items;
  within : l.i - l.from ≤ length l.operands.items - l.from;
}
