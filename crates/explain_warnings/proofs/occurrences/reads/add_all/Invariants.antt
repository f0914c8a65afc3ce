use Rattle.std.proofs.Common.{◌≡◌, ◌++◌, map, drop}
use Rattle.syntax_trees.specs.View.{word_of}
use Rattle.explain_warnings.specs.Mentions.{name_use}
use Rattle.explain_warnings.proofs.occurrences.reads.add_all.Given as goal

abbrev pub invariant-loop-name : goal.invariant-loop-name
invariant-loop-name g l =
    l.fn.name_uses.items ++ map (name_use l.kind) (map word_of l.names.items)
    ≡ l.name_uses.items ++ map (name_use l.kind) (map word_of (drop l.name-index l.names.items))
