use Rattle.std.proofs.Common.{◌∙◌, ap, subst, sym}
use Rattle.task_code.specs.Code.{If}
use Rattle.task_code.specs.Compute.{Takes}
use Rattle.task_code.specs.View.{act_view, expr_view}
use Rattle.board_effects.specs.Ended.{Ends}
use Rattle.board_effects.specs.declared.effect.Effect.TheVariants.{Passes}
use Rattle.board_effects.proofs.Blocks.{no_else}
use Rattle.board_effects.proofs.effect.EndingItem.branches.Goals as goal

pub returns-in-None : goal.returns-in-None
returns-in-None c = λ w t. subst (λ b. Ends c.args.self (Takes b) Passes) (sym c.if-truth.false) (no_else c.args.self w (expr_view c.in-If.field-0) c.in-If.then (ap act_view c.in-If.is ∙ ap (λ o. If (expr_view c.in-If.field-0) c.in-If.then o) c.in-None.is))
