use Rattle.std.proofs.Common.{◌≡◌, ◌++◌}
use Rattle.meaning_facts.specs.Store.{all_lines}
use Rattle.meaning_facts.proofs.facts.Facts.all_lines.Given as goal

abbrev pub invariant-loop-line : goal.invariant-loop-line
invariant-loop-line l = l.lines.items ++ l.line-iterator ≡ all_lines l.self
