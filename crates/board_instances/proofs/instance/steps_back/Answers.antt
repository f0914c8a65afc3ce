use Rattle.std.proofs.Common.{◌-◌, arith}
use Rattle.board_instances.proofs.Paths.{steps_begin, steps_done, steps_end, steps_go}
use Rattle.board_instances.proofs.instance.steps_back.Goals as goal

pub loop-step-init : goal.loop-step-init
loop-step-init c = steps_begin c.args.instances.now c.args.at c.new-steps.result.items c.push_step.new.steps.items c.level_of-step-end.result c.in_ok-next.next c.new-steps.ensures.items c.level_of-step-end.ensures c.in_ok-next.ensures

pub returns-in_default : goal.returns-in_default
returns-in_default c = steps_end c.args.instances.now c.args.at c.loop-step.steps.items (c.level_of-step-end.result - c.loop-step.step) c.loop-step.next c.loop-step.invariant c.in_default.is

pub loop-step-preserved : goal.loop-step-preserved
loop-step-preserved c = steps_go c.args.instances.now c.args.at c.loop-step.steps.items c.push_step-in-loop-step.new.steps.items c.level_of-step-end.result c.loop-step.step c.in-Some.key c.loop-step.next c.in_ok-next-2.next c.loop-step.invariant c.in-Some.is c.loop-step-test.true c.in_ok-next-2.ensures

pub returns : goal.returns
returns c = steps_done c.args.instances.now c.args.at c.loop-step.steps.items (c.level_of-step-end.result - c.loop-step.step) c.loop-step.next c.loop-step.invariant (omega (arith, c.loop-step-test.false))
