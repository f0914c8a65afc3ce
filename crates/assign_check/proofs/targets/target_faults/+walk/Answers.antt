use Rattle.std.proofs.Common.{◌++◌, List, refl, ap, sym, ◌∙◌, arith}
use Rattle.std.proofs.lemmas.Grind.{common_steps}
use Rattle.std.proofs.lemmas.Result.{on_ok_weaker}
use Rattle.assign_check.specs.Outline as outline
use Rattle.assign_check.specs.Faults as faults
use Rattle.assign_check.specs.View.{step_view, outline_view}
use Rattle.assign_check.specs.Ways.{listed}
use Rattle.language.proofs.Walks.{walked_more}
use Rattle.assign_check.proofs.faults.Answered.{step_best, split_best, loop_way, view-Repeats, view-Splits}
use Rattle.assign_check.proofs.targets.target_faults.+walk.Goals as goal

pub walk-loop-step-preserved : goal.walk-loop-step-preserved
walk-loop-step-preserved t c = record {
  way = walked_more step_view (faults.step_way c.args.inside) (λ (ss : List outline.Step). faults.way c.args.inside (outline.outlined ss)) (λ y ys. refl)
      (listed c.args.way.now ++ faults.way c.args.inside (outline_view c.args.steps.now.items)) (listed c.loop-step.way) (listed c.walk_step.new.way)
      c.args.steps.now.items c.loop-step.step-index c.step-item.result c.loop-step.invariant.way (grind (arith, common_steps)) (grind (arith, common_steps)) c.in_ok-walk_step.ensures.way;
  best = step_best step_view c.args.inside (faults.first_among c.args.best.now (faults.way_faults c.args.inside (listed c.args.way.now) (outline_view c.args.steps.now.items)))
      c.loop-step.best c.walk_step.new.best (listed c.loop-step.way) (listed c.walk_step.new.way) c.args.steps.now.items c.loop-step.step-index c.step-item.result
      c.loop-step.invariant.best (grind (arith, common_steps)) (grind (arith, common_steps)) c.in_ok-walk_step.ensures.way c.in_ok-walk_step.ensures.best;
}

pub walk_step-returns-in_ok-extend-in-Splits-clause-best : goal.walk_step-returns-in_ok-extend-in-Splits-clause-best
walk_step-returns-in_ok-extend-in-Splits-clause-best t c =
    let view = ap step_view c.in-Splits.is ∙ view-Splits c.in-Splits.field-0 c.in-Splits.field-1 c.in-Splits.first c.in-Splits.other in
    on_ok_weaker c.extend-in-Splits.result (λ _.
    split_best c.args.inside c.in-Splits.field-0 c.in-Splits.field-1 (outline_view c.in-Splits.first.items) (outline_view c.in-Splits.other.items) c.len-before.result
    (listed c.args.way.now) (listed c.walk.new.way) (listed c.set_aside.new.self) c.args.best.now c.walk.new.best c.walk-in-Splits.new.best
    (sym c.len-before.ensures) c.in_ok-walk-in-Splits.ensures.way c.in_ok-walk-in-Splits.ensures.best c.in_ok-taken-in-Splits.ensures.kept c.in_ok-walk-in-Splits-2.ensures.best
    ∙ ap (λ (s : outline.Step). faults.first_among c.args.best.now (faults.step_faults c.args.inside (listed c.args.way.now) s)) (sym view)) c.extend-in-Splits.ensures

pub walk_step-returns-in_ok-walk-in-Repeats-clause-way : goal.walk_step-returns-in_ok-walk-in-Repeats-clause-way
walk_step-returns-in_ok-walk-in-Repeats-clause-way t c =
    let view = ap step_view c.in-Repeats.is ∙ view-Repeats c.in-Repeats.number c.in-Repeats.body in
    loop_way c.args.inside c.in-Repeats.number (outline_view c.in-Repeats.body.items) c.len-before-in-Repeats.result (listed c.args.way.now) (listed c.walk-in-Repeats.new.way) (listed c.truncate.new.self) _
    (sym c.len-before-in-Repeats.ensures) c.in_ok-walk-in-Repeats.ensures.way c.truncate.ensures
    ∙ ap (λ (s : outline.Step). listed c.args.way.now ++ faults.step_way c.args.inside s) (sym view)
