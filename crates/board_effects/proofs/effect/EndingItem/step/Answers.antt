use Rattle.std.proofs.Common.{◌∙◌, ap, w64, ℕ, ℤ, Option, Some}
use Rattle.std.proofs.lemmas.Int.{to_z-of_z}
use Rattle.std.specs.Prelude.{option_map}
use Rattle.task_code.specs.Places.{Step}
use Rattle.values.specs.declared.key.Key.TheVariants.{Number}
use Rattle.board_instances.specs.View.{step_view}
use Rattle.board_effects.proofs.Blocks.{offset_is}
use Rattle.board_effects.proofs.effect.EndingItem.step.Goals as goal

pub returns : goal.returns
returns c = λ w.
    ap (option_map step_view) c.to_number.ensures
    ∙ ap {B = Option Step} (λ (z : ℤ). Some (record { offset = c.args.self.table.now.offset; key = Number z })) (to_z-of_z w64 c.args.number c.ranges.number)
    ∙ ap {B = Option Step} (λ (offset : ℕ). Some (record { offset = offset; key = Number c.args.number })) (offset_is c.args.self w)
