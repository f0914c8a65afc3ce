use Rattle.std.proofs.Common.{◌≡◌, ◌++◌, map, drop}
use Rattle.syntax_trees.specs.View.{word_of}
use Rattle.types.specs.Known.{type_of, around_of}
use Rattle.types.specs.Outcomes.{got, ◌>>=◌}
use Rattle.types.specs.Statements as steps
use Rattle.types.proofs.statements.refer_all.Given as goal

abbrev pub invariant-loop-name : goal.invariant-loop-name
invariant-loop-name g l =
    steps.refer_all (around_of l.scope) (map word_of l.names) l.fn.settled.items
    ≡ (steps.refer_all (around_of l.scope) (map word_of (drop l.name-index l.names)) l.settled.items >>= λ ρs. got (map type_of l.types.items ++ ρs))
