use Rattle.std.proofs.Common.{◌≡◌, drop}
use Rattle.paths.specs.Order.{same_path}
use Rattle.paths.proofs.steps.is_same_path.Given as goal

abbrev pub invariant-loop-step : goal.invariant-loop-step
invariant-loop-step l = same_path (drop l.step-index l.one) l.rest ≡ same_path l.one l.other
