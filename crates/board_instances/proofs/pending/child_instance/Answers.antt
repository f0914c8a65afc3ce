use Rattle.std.proofs.Common.{◌≡◌, ◌<◌, ◌∙◌, ◌++◌, length, replicate, ap, inr, refl, subst}
use Rattle.task_code.specs.Code.{Code, body}
use Rattle.task_code.specs.View.{body_view}
use Rattle.board_history.specs.Fields.{Absent}
use Rattle.board_instances.specs.Openings.{passed_from}
use Rattle.board_instances.specs.View.{frames_view}
use Rattle.board_instances.proofs.Openings.{inner_made}
use Rattle.board_instances.proofs.Slots.{view_absent}
use Rattle.board_instances.proofs.pending.child_instance.Goals as goal

pub returns-in_default-get-clause-none : goal.returns-in_default-get-clause-none
returns-in_default-get-clause-none c = inr (view_absent c.args.around.instances.now c.args.around.at c.in_default-get.ensures)

pub returns-clause-some : goal.returns-clause-some
returns-clause-some c = inner_made c.args.around.program.now c.args.around.instances.now c.args.around.at c.args.number c.args.way (passed_from (frames_view c.args.around.instances.now.slots) c.args.around.at c.args.arguments.0 0 c.args.arguments.1.now) c.in-Some.body.now c.in-Some-get.outer.now _ c.in-Some-get.ensures (subst (λ (C : Code). c.args.number < length C.bodies) c.code.ensures c.in-Some.ensures.0) (subst (λ (C : Code). body_view c.in-Some.body.now ≡ body C c.args.number) c.code.ensures c.in-Some.ensures.1) c.in_ok-of.ensures c.in_ok-checked_successor.ensures c.in_ok-depth.ensures refl refl (c.len-2.ensures ∙ c.in-Some.body.now.entries.ok.0) (c.in_ok-push_parameters.ensures ∙ ap (λ xs. xs ++ passed_from (frames_view c.args.around.instances.now.slots) c.args.around.at c.args.arguments.0 0 c.args.arguments.1.now) (c.in_ok-slots.ensures ∙ ap (λ n. replicate n Absent) (c.len.ensures ∙ c.in-Some.body.now.makes.ok.0)))
