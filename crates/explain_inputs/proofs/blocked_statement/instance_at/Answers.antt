use Rattle.std.proofs.Common.{arith, ◌≡◌, ◌<◌, ◌+◌, List, length, map, take, sym, ap, ◌∙◌}
use Rattle.std.proofs.lemmas.Grind.{common_steps}
use Rattle.std.specs.Prelude.{reverse, Some, None}
use Rattle.paths.specs.declared.steps.Step.{Step}
use Rattle.meaning_facts.specs.Paths.{at_path, child_at, step_view}
use Rattle.explain_inputs.proofs.Waiting.{step_further, step_lost}
use Rattle.explain_inputs.proofs.blocked_statement.instance_at.Goals as goal

pub loop-step-preserved : goal.loop-step-preserved
loop-step-preserved c =
    let within : c.loop-step.step-index < length c.args.path.now = grind (arith, common_steps) in
    step_further c.args.instances.now c.args.path.now c.loop-step.step-index c.step-item.result c.loop-step.instance (Some c.in-Some.inside) within c.loop-step.invariant
    (sym c.in-Some.is ∙ c.child_of.ensures ∙ ap (λ (x : Step). child_at c.args.instances.now c.loop-step.instance x.offset x.key) c.step-item.is)

pub returns-in-None : goal.returns-in-None
returns-in-None c =
    let within : c.loop-step.step-index < length c.args.path.now = grind (arith, common_steps) in
    sym (step_lost c.args.instances.now c.args.path.now (c.loop-step.step-index + 1)
    (step_further c.args.instances.now c.args.path.now c.loop-step.step-index c.step-item.result c.loop-step.instance None within c.loop-step.invariant
    (sym c.in-None.is ∙ c.child_of.ensures ∙ ap (λ (x : Step). child_at c.args.instances.now c.loop-step.instance x.offset x.key) c.step-item.is)))

pub returns : goal.returns
returns c =
    let full : take c.loop-step.step-index c.args.path.now ≡ c.args.path.now = grind (arith, common_steps) in
    sym (ap (λ (z : List Step). at_path c.args.instances.now (reverse (map step_view z))) (sym full) ∙ c.loop-step.invariant)
