use Rattle.std.proofs.Common.{◌≡◌, ℕ, ◌<◌}
use Rattle.assign_check.specs.Sets.{has}
use Rattle.assign_check.proofs.counts.numbers.differ.Given as goal

abbrev pub invariant-loop-number : goal.invariant-loop-number
invariant-loop-number l = (n : ℕ) → n < l.number → has l.one n ≡ has l.other n
