use Rattle.std.proofs.Common.{◌≡◌, ◌≤◌, ℕ, map, drop}
use Rattle.std.specs.Prelude.{◌||◌}
use Rattle.syntax_trees.specs.View.{part_of}
use Rattle.types.specs.Typed.{table_of}
use Rattle.explain_warnings.specs.Marks.{is_marked, is_called}
use Rattle.explain_warnings.proofs.sets.calls.called_marks.Given as goal

abbrev pub invariant-loop-item : goal.invariant-loop-item
invariant-loop-item g l = record {
  marked : (k : ℕ) → is_called (table_of l.typed) 0 (map part_of l.script.items.items) k
      ≡ (is_marked l.marks.items k || is_called (table_of l.typed) l.position (map part_of (drop l.item-index l.script.items.items)) k);
  within : l.position ≤ l.item-index;
}
