use Rattle.std.proofs.Common.{◌≡◌, ℕ, length}
use Rattle.explain_warnings.specs.Marks.{is_marked}
use Rattle.explain_warnings.proofs.sets.marks.mark.Given as goal

abbrev pub invariant-loop : goal.invariant-loop
invariant-loop l = record {
  as_before : (k : ℕ) → is_marked l.marks.items k ≡ is_marked l.fn.marks.items k;
  counted : length l.marks.items ≡ l.counter;
}
