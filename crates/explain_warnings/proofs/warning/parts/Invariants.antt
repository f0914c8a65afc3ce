use Rattle.std.proofs.Common.{◌≡◌, ◌≤◌, ◌++◌, map, drop}
use Rattle.syntax_trees.specs.View.{part_of}
use Rattle.types.specs.Typed.{table_of}
use Rattle.explain_warnings.specs.View.{uses_of}
use Rattle.explain_warnings.specs.Warnings.{parts_warnings, warnings_at}
use Rattle.explain_warnings.proofs.warning.parts.Given as goal

abbrev pub invariant-loop-item : goal.invariant-loop-item
invariant-loop-item g l = record {
  added : warnings_at (uses_of l.uses) l.first ++ parts_warnings (table_of l.typed) (uses_of l.uses) 0 (map part_of l.script.items.items)
      ≡ l.found.items ++ parts_warnings (table_of l.typed) (uses_of l.uses) l.position (map part_of (drop l.item-index l.script.items.items));
  within : l.position ≤ l.item-index;
}
