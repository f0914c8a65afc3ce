use Rattle.std.proofs.Common.{◌≡◌, map, take}
use Rattle.syntax_trees.specs.View.{word_of}
use Rattle.syntax_trees.proofs.copy.copy_names.Given as goal

abbrev pub invariant-loop-name : goal.invariant-loop-name
invariant-loop-name g l = map word_of l.copies.items ≡ map word_of (take l.name-index l.names.items)
