use Rattle.std.proofs.Common.{◌≡◌, ◌++◌, map, take, drop, length}
use Rattle.syntax_trees.specs.View.{part_of}
use Rattle.constant_fold.specs.Folded.{folded_part}
use Rattle.constant_fold.proofs.script.parts.Given as goal

abbrev pub invariant-loop-i : goal.invariant-loop-i
invariant-loop-i g l =
    (length l.items.items ≡ length l.initial.items.items)
    × (map folded_part (map part_of l.initial.items.items) ≡ map part_of (take l.i l.items.items) ++ map folded_part (map part_of (drop l.i l.items.items)))
