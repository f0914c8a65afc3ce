use Rattle.std.proofs.Common.{◌≡◌, drop}
use Rattle.paths.specs.Order.{path_below}
use Rattle.paths.proofs.steps.is_path_below.Given as goal

abbrev pub invariant-loop-step : goal.invariant-loop-step
invariant-loop-step l = path_below (drop l.step-index l.one) l.rest ≡ path_below l.one l.other
