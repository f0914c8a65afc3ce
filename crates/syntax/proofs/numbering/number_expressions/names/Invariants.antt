use Rattle.std.proofs.Common.{◌≡◌, ◌≤◌, ◌+◌, length, map}
use Rattle.std.specs.List.{sum_by}
use Rattle.syntax_trees.specs.View.{word_of}
use Rattle.language.specs.Numbered.{numbered_each, numbered_word, word_size}
use Rattle.syntax.proofs.NumberSteps.{half, left}
use Rattle.syntax.proofs.numbering.number_expressions.names.Given as goal

abbrev pub invariant-loop-i : goal.invariant-loop-i
invariant-loop-i g l = record {
  long : length l.names.items ≡ length l.initial.names.items;
  numbered : half word_of numbered_word word_size l.names.items l.i l.next ≡ numbered_each numbered_word word_size l.fn.from (map word_of l.initial.names.items);
  counts : l.next + left word_of numbered_word word_size l.names.items l.i ≡ l.fn.from + sum_by word_size (map word_of l.initial.names.items);
  grows : l.fn.from ≤ l.next;
}
