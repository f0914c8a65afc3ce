use Rattle.std.proofs.Common.{◌≡◌, ◌++◌, [], drop, cond}
use Rattle.language.specs.Core.{Owned}
use Rattle.assign_check.specs.Faults.{sums, is_among}
use Rattle.assign_check.specs.Sets.{Same, numbers, set_at, names, part_sums}
use Rattle.assign_check.proofs.counts.count.hand_up.Given as goal

abbrev pub invariant-loop-part : goal.invariant-loop-part
invariant-loop-part l = record {
  sums : (of : Owned) → Same (sums (part_sums of l.up.items) (numbers (set_at l.one of) ++ numbers (set_at l.other of))) (sums (part_sums of l.fn.up.items) (numbers (set_at l.fn.one of) ++ numbers (set_at l.fn.other of)));
  one : (of : Owned) → cond (is_among of (names (drop l.part-index l.parts))) [] (set_at l.one of) ≡ cond (is_among of (names l.parts)) [] (set_at l.fn.one of);
  other : (of : Owned) → cond (is_among of (names (drop l.part-index l.parts))) [] (set_at l.other of) ≡ cond (is_among of (names l.parts)) [] (set_at l.fn.other of);
}
