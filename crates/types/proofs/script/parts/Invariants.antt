use Rattle.std.proofs.Common.{◌≡◌, ◌≤◌, map, drop}
use Rattle.syntax_trees.specs.View.{part_of}
use Rattle.types.specs.Known.{around_of, nowhere}
use Rattle.types.specs.Functions.{signatures_of}
use Rattle.types.specs.Scripts.{parts_checked}
use Rattle.types.proofs.script.parts.Given as goal

abbrev pub invariant-loop-item : goal.invariant-loop-item
invariant-loop-item g l = record {
  walks : parts_checked (signatures_of l.functions) 0 nowhere (map part_of l.items) l.fn.settled.items
      ≡ parts_checked (signatures_of l.functions) l.above (around_of l.scope) (map part_of (drop l.item-index l.items)) l.settled.items;
  fewer : l.above ≤ l.item-index;
}
