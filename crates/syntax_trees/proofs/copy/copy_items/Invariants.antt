use Rattle.std.proofs.Common.{◌≡◌, map, take}
use Rattle.syntax_trees.specs.View.{part_of}
use Rattle.syntax_trees.proofs.copy.copy_items.Given as goal

abbrev pub invariant-loop-item : goal.invariant-loop-item
invariant-loop-item g l = map part_of l.copies.items ≡ map part_of (take l.item-index l.items.items)
