use Rattle.std.proofs.Common.{◌≡◌, ℕ, length}
use Rattle.task_code.specs.Code.{nth}
use Rattle.code_listing.proofs.bodies.zeros.Given as goal

abbrev pub invariant-loop : goal.invariant-loop
invariant-loop l = record {
  many : length l.zeros.items ≡ l.counter;
  each : (b : ℕ) → nth 0 l.zeros.items b ≡ 0;
}
