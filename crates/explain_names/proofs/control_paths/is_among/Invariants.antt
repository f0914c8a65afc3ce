use Rattle.std.proofs.Common.{◌≡◌, map, drop}
use Rattle.syntax_trees.specs.View.{word_of}
use Rattle.explain_names.specs.Ways.{is_among}
use Rattle.explain_names.proofs.control_paths.is_among.Given as goal

abbrev pub invariant-loop-target : goal.invariant-loop-target
invariant-loop-target g l =
    is_among l.name (map word_of l.targets.items) ≡ is_among l.name (map word_of (drop l.target-index l.targets.items))
