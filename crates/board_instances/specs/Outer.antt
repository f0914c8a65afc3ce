-- Unpacking of the key of an enclosing instance and of a step.
use Rattle.std.specs.Prelude.{ℕ, Option, Some, None, ◌==◌, cond}
use Rattle.paths.specs.declared.steps.Step.{Step}
use Rattle.board_instances.specs.declared.parent_key.PackedStep.{PackedStep}
use Rattle.board_instances.specs.declared.parent_key.PackedStep.TheVariants.{Nothing, ToNumber, ToText}
use Rattle.values.specs.declared.key.Key.TheVariants.{Number, Text}

-- the key; the greatest 32-bit number stands for none
abbrev pub key_in : ℕ → Option ℕ
key_in k = cond (k == 4294967295) None (Some k)

-- the stored step
abbrev pub step_in : PackedStep → Option Step
step_in Nothing = None
step_in (ToNumber offset number) = Some (record { offset = offset; key = Number number })
step_in (ToText offset text) = Some (record { offset = offset; key = Text text })
