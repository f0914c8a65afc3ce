use Rattle.std.proofs.Common.{◌≡◌, ℕ, ◌<◌, ◌++◌, length, get_or, false}
use Rattle.assign_check.specs.Faults.{is_in}
use Rattle.assign_check.specs.Sets.{numbers}
use Rattle.assign_check.proofs.counts.numbers.union.Given as goal

abbrev pub invariant-loop-number : goal.invariant-loop-number
invariant-loop-number l = record {
  filled : (n : ℕ) → n < length l.set.items → get_or l.set.items n false ≡ is_in n (numbers l.one ++ numbers l.other);
  long : length l.set.items ≡ l.number;
}
