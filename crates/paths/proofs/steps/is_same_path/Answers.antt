use Rattle.std.proofs.Common.{◌∙◌}
use Rattle.paths.proofs.Orders.{same_none}
use Rattle.paths.proofs.steps.is_same_path.Goals as goal

pub returns-in_default : goal.returns-in_default
returns-in_default c = same_none c.args.one.now c.loop-step.rest.now c.loop-step.step-index c.loop-step-test.true c.in_default.len_below ∙ c.loop-step.invariant
