use Rattle.std.proofs.Common.{◌++◌, List, map, refl, arith}
use Rattle.std.proofs.lemmas.Grind.{common_steps}
use Rattle.assign_check.specs.Outline as outline
use Rattle.assign_check.specs.Faults.{uses_in, uses_at, declared_in, declared_at}
use Rattle.assign_check.specs.View.{step_view, use_view, declared_view, outline_view}
use Rattle.language.proofs.Walks.{walked_more}
use Rattle.assign_check.proofs.summaries.use_summary.+collect.Goals as goal

pub collect-loop-step-preserved : goal.collect-loop-step-preserved
collect-loop-step-preserved t c = record {
  uses = walked_more step_view uses_at (λ (ss : List outline.Step). uses_in (outline.outlined ss)) (λ y ys. refl)
      (map use_view c.args.uses.now.items ++ uses_in (outline_view c.args.steps.now.items)) (map use_view c.loop-step.uses.items) (map use_view c.collect_step.new.uses.items)
      c.args.steps.now.items c.loop-step.step-index c.step-item.result c.loop-step.invariant.uses (grind (arith, common_steps)) (grind (arith, common_steps)) c.in_ok-collect_step.ensures.uses;
  declared = walked_more step_view declared_at (λ (ss : List outline.Step). declared_in (outline.outlined ss)) (λ y ys. refl)
      (map declared_view c.args.declared.now.items ++ declared_in (outline_view c.args.steps.now.items)) (map declared_view c.loop-step.declared.items) (map declared_view c.collect_step.new.declared.items)
      c.args.steps.now.items c.loop-step.step-index c.step-item.result c.loop-step.invariant.declared (grind (arith, common_steps)) (grind (arith, common_steps)) c.in_ok-collect_step.ensures.declared;
}
