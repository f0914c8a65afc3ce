use Rattle.std.proofs.Common.{◌≡◌, ℕ, ◌<◌, ◌≤◌, ◌-◌, true}
use Rattle.assign_check.specs.Sets.{has}
use Rattle.assign_check.proofs.counts.numbers.adds_up.Given as goal

abbrev pub invariant-loop-part : goal.invariant-loop-part
invariant-loop-part l = (i : ℕ) → i < l.part → i ≤ l.number → has l.one i ≡ true → has l.other (l.number - i) ≡ true → ⊥
