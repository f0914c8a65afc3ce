use Rattle.std.proofs.Common.{ap, refl}
use Rattle.task_code.specs.Code.{Entry}
use Rattle.board_effects.proofs.effect.EndingItem.fails.Goals as goal

pub returns : goal.returns
returns c = λ w. record { fault = _; is = refl; kind_is = refl; met = (ap (λ (e : Entry). e.at) w.entry_is, c.in_ok-path_of.ensures) }
