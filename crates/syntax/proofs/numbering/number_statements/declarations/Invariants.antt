use Rattle.std.proofs.Common.{◌≡◌, ◌≤◌, ◌+◌, length, map}
use Rattle.std.specs.List.{sum_by}
use Rattle.syntax_trees.specs.View.{declaration_of}
use Rattle.language.specs.Numbered.{numbered_each, numbered_declaration, declaration_size}
use Rattle.syntax.proofs.NumberSteps.{half, left}
use Rattle.syntax.proofs.numbering.number_statements.declarations.Given as goal

abbrev pub invariant-loop-i : goal.invariant-loop-i
invariant-loop-i g l = record {
  long : length l.decls.items ≡ length l.initial.decls.items;
  numbered : half declaration_of numbered_declaration declaration_size l.decls.items l.i l.next ≡ numbered_each numbered_declaration declaration_size l.fn.from (map declaration_of l.initial.decls.items);
  counts : l.next + left declaration_of numbered_declaration declaration_size l.decls.items l.i ≡ l.fn.from + sum_by declaration_size (map declaration_of l.initial.decls.items);
  grows : l.fn.from ≤ l.next;
}
