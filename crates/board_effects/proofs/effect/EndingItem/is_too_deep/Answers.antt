use Rattle.std.proofs.Common.{◌∙◌, ap, sym}
use Rattle.std.specs.Prelude.{nat_le}
use Rattle.board_history.specs.Fields.{Frame}
use Rattle.values.specs.Limits.{max_path_steps}
use Rattle.board_instances.proofs.Slots.{not_there, view_is}
use Rattle.board_effects.proofs.effect.EndingItem.is_too_deep.Goals as goal

pub returns-in-Some : goal.returns-in-Some
returns-in-Some c = λ w. ap (nat_le max_path_steps) (sym (ap (λ (f : Frame). f.depth) (view_is c.args.self.view.instances.now c.args.self.view.at c.in-Some.around.now w.frame c.in-Some.ensures w.there)) ∙ w.depth)

pub returns-in-None : goal.returns-in-None
returns-in-None c = λ w. not_there c.args.self.view.instances.now c.args.self.view.at w.frame c.in-None.ensures w.there
