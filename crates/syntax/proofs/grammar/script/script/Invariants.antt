use Rattle.std.proofs.Common.{◌≡◌, ℕ, List, ◌+◌, ◌*◌, ◌<◌, ◌≤◌, length, map}
use Rattle.std.specs.Prelude.{not, sum_by}
use Rattle.language.specs.Tree.{Part}
use Rattle.syntax_trees.specs.View.{part_of}
use Rattle.language.specs.Numbered.{numbered, part_size}
use Rattle.syntax.specs.Readers.{at_end, many_over}
use Rattle.syntax.specs.Reading.{read_part, read_script}
use Rattle.syntax.proofs.grammar.script.script.Given as goal

abbrev pub invariant-loop-cursor : goal.invariant-loop-cursor
invariant-loop-cursor g l =
    (n : ℕ) × (parts : List Part) × (length l.cursor.rest < n)
    × (read_script l.depth l.fn.cursor ≡ many_over (λ s. not (at_end s)) (read_part l.depth) n parts l.cursor)
    × (map part_of l.items.items ≡ numbered 1 parts)
    × (l.next ≡ 1 + sum_by part_size parts)
    × (l.next + 2 * length l.cursor.rest ≤ 1 + 2 * length l.fn.cursor.rest)

abbrev pub decreases-loop-cursor : goal.decreases-loop-cursor
decreases-loop-cursor g l = length l.cursor.rest
