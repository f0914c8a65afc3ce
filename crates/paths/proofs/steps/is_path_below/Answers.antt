use Rattle.std.proofs.Common.{◌∙◌, drop}
use Rattle.paths.proofs.Orders.{below_none}
use Rattle.paths.proofs.steps.is_path_below.Goals as goal

pub returns-in-empty : goal.returns-in-empty
returns-in-empty c = below_none (drop c.loop-step.step-index c.args.one.now) c.loop-step.rest.now c.in-empty.len_below ∙ c.loop-step.invariant
