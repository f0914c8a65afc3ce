use Rattle.std.proofs.Common.{◌≡◌, ◌≤◌, ◌++◌, map, drop}
use Rattle.syntax_trees.specs.View.{expression_view}
use Rattle.language.specs.Tree.{expressions_of}
use Rattle.explain_warnings.specs.Mentions.{all_reads, operand_reads}
use Rattle.explain_warnings.proofs.occurrences.reads.+read.Given as goal

abbrev pub invariant-read_all-loop-expr : goal.invariant-read_all-loop-expr
invariant-read_all-loop-expr g l =
    l.fn.name_uses.items ++ all_reads (expressions_of (map expression_view l.exprs.items))
    ≡ l.name_uses.items ++ all_reads (expressions_of (map expression_view (drop l.expr-index l.exprs.items)))

abbrev pub invariant-read_operands-loop-operand : goal.invariant-read_operands-loop-operand
invariant-read_operands-loop-operand g l = record {
  added : l.fn.name_uses.items ++ operand_reads l.operators.items 0 (expressions_of (map expression_view l.operands.items))
      ≡ l.name_uses.items ++ operand_reads l.operators.items l.place (expressions_of (map expression_view (drop l.operand-index l.operands.items)));
  within : l.place ≤ l.operand-index;
}
