use Rattle.std.proofs.Common.{◌≡◌, ◌++◌, drop}
use Rattle.assign_check.specs.Faults as faults
use Rattle.assign_check.specs.View.{outline_view}
use Rattle.assign_check.specs.Ways.{listed}
use Rattle.assign_check.proofs.targets.target_faults.+walk.Given as goal

abbrev pub invariant-walk-loop-step : goal.invariant-walk-loop-step
invariant-walk-loop-step l = record {
  way : listed l.fn.way ++ faults.way l.inside (outline_view l.steps.items) ≡ listed l.way ++ faults.way l.inside (outline_view (drop l.step-index l.steps.items));
  best : faults.first_among l.fn.best (faults.way_faults l.inside (listed l.fn.way) (outline_view l.steps.items))
      ≡ faults.first_among l.best (faults.way_faults l.inside (listed l.way) (outline_view (drop l.step-index l.steps.items)));
}
