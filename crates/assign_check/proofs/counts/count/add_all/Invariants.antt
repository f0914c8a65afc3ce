use Rattle.std.proofs.Common.{◌≡◌, drop, false}
use Rattle.language.specs.Core.{Owned}
use Rattle.assign_check.specs.Faults.{sums, is_among}
use Rattle.assign_check.specs.Sets.{Same, numbers, set_at, names, part_sums}
use Rattle.assign_check.proofs.counts.count.add_all.Given as goal

abbrev pub invariant-loop-part : goal.invariant-loop-part
invariant-loop-part l = record {
  sums : (of : Owned) → Same (sums (numbers (set_at l.sets of)) (part_sums of (drop l.part-index l.parts))) (sums (numbers (set_at l.fn.sets of)) (part_sums of l.parts));
  kept : (of : Owned) → is_among of (names l.parts) ≡ false → set_at l.sets of ≡ set_at l.fn.sets of;
}
