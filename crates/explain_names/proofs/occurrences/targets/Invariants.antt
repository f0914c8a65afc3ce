use Rattle.std.proofs.Common.{◌≡◌, None, ◌++◌, map, drop}
use Rattle.syntax_trees.specs.View.{word_of}
use Rattle.explain_names.specs.declared.occurrence.OccurrenceKind.TheVariants.{Assigned}
use Rattle.explain_names.specs.Mentions.{occurrence}
use Rattle.explain_names.proofs.occurrences.targets.Given as goal

abbrev pub invariant-loop-name : goal.invariant-loop-name
invariant-loop-name g l =
    l.fn.occurrences.items ++ map (occurrence Assigned None) (map word_of l.names.items)
    ≡ l.occurrences.items ++ map (occurrence Assigned None) (map word_of (drop l.name-index l.names.items))
