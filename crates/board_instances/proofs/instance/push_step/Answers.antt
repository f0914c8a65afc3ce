use Rattle.std.proofs.Common.{◌≡◌, ap, refl, subst, sym, ◌∙◌, ◌++◌, Option, Some, ℕ, suc, map}
use Rattle.board_history.specs.Fields.{path_from}
use Rattle.board_instances.specs.View.{frames_view, step_view}
use Rattle.board_instances.proofs.Paths.{ends_there, with_step, without_step}
use Rattle.board_instances.proofs.instance.push_step.Goals as goal
use Rattle.board_instances.proofs.instance.push_step.Goals.{in-Some-way+in_ok-push, in_default-way}

pub returns-in_default : goal.returns-in_default
returns-in_default c = λ n. ends_there c.args.instances.now c.args.at n c.args.steps.now.items c.in_default.ensures

pub returns : goal.returns
returns c = λ n. subst (λ (o : Option ℕ). map step_view c.match-way.steps.items ++ path_from (frames_view c.args.instances.now.slots) n o ≡ map step_view c.args.steps.now.items ++ path_from (frames_view c.args.instances.now.slots) (suc n) (Some c.args.at)) (sym c.key.ensures) (elim c.match-way.branch [
  | in-Some-way+in_ok-push w ↦ with_step c.args.instances.now c.args.at n c.in-Some.instance.now c.args.steps.now.items c.match-way.steps.items w.in-Some-way.step w.in-Some-way.step.key c.in-Some.ensures (sym c.in_ok-way.ensures ∙ w.in-Some-way.is) refl (ap (λ v. v.items) w.steps-is ∙ w.in_ok-push.ensures.items)
  | in_default-way w ↦ without_step c.args.instances.now c.args.at n c.in-Some.instance.now c.args.steps.now.items c.match-way.steps.items c.in-Some.ensures (sym c.in_ok-way.ensures ∙ w.in_default-way.is) (ap (λ v. v.items) w.steps-is)
])
