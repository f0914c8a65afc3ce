use Rattle.board_effects.proofs.Takes.{can_store}
use Rattle.board_effects.proofs.laws.effects_fit.Goals as goal

pub returns : goal.returns
returns c = can_store
