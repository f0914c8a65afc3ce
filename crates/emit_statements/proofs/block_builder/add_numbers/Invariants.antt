use Rattle.std.proofs.Common.{◌≡◌, ◌++◌, ◌≤◌, ◌^◌, ◌-◌}
use Rattle.code_rules.specs.Laying.{counted}
use Rattle.emit_statements.proofs.block_builder.add_numbers.Given as goal

abbrev pub invariant-loop-number : goal.invariant-loop-number
invariant-loop-number l = l.from ≤ l.to → l.to ≤ 2 ^ 32 → l.numbers.items ≡ l.fn.numbers.items ++ counted l.from (l.number - l.from)
