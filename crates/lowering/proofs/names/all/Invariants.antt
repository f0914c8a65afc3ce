use Rattle.std.proofs.Common.{◌≡◌, map, take}
use Rattle.syntax_trees.specs.View.{word_of}
use Rattle.language.specs.Resolved.{refers, awaited}
use Rattle.types.specs.Typed.{table_of}
use Rattle.flow.specs.View.{names_view, awaited_view}
use Rattle.lowering.proofs.names.all.Given as goal

abbrev pub invariant-loop-name : goal.invariant-loop-name
invariant-loop-name g l =
    (names_view l.found.items ≡ map (refers (table_of l.typed)) (map word_of (take l.name-index l.names.items)))
    × (map awaited_view l.found.items ≡ map (awaited (table_of l.typed)) (map word_of (take l.name-index l.names.items)))
