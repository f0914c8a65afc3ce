use Rattle.board_effects.proofs.Tells.{tells}
use Rattle.board_effects.proofs.laws.effects_tell.Goals as goal

pub returns : goal.returns
returns c = tells
