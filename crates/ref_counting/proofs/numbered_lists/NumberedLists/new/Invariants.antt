use Rattle.std.proofs.Common.{◌≡◌, ℕ, [], length, map}
use Rattle.ref_counting.specs.Rows.{row}
use Rattle.ref_counting.proofs.numbered_lists.NumberedLists.new.Given as goal

abbrev pub invariant-loop-row : goal.invariant-loop-row
invariant-loop-row g l = record {
  count : length l.rows.items ≡ l._row;
  empty : (k : ℕ) → row (map (λ v. v.items) l.rows.items) k ≡ [];
}
