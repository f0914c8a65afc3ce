use Rattle.std.proofs.Common.{◌≡◌, drop}
use Rattle.language.specs.Core.{Owned}
use Rattle.assign_check.specs.Faults.{first_among, split_faults, sums, counts}
use Rattle.assign_check.specs.Sets.{Same, are_empty, part_sums}
use Rattle.assign_check.specs.View.{outline_view}
use Rattle.assign_check.proofs.counts.count.+count.Given as goal

abbrev pub invariant-count-loop-step : goal.invariant-count-loop-step
invariant-count-loop-step l = record {
  sums : (of : Owned) → Same (sums (part_sums of l.parts.items) (counts l.inside of (outline_view (drop l.step-index l.steps.items)))) (sums (part_sums of l.fn.parts.items) (counts l.inside of (outline_view l.steps.items)));
  best : first_among l.fn.best (split_faults l.inside (outline_view l.steps.items)) ≡ first_among l.best (split_faults l.inside (outline_view (drop l.step-index l.steps.items)));
  empty : are_empty l.branches;
}
