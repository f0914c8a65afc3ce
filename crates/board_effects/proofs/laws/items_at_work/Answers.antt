use Rattle.board_effects.proofs.AtWork.{at_work}
use Rattle.board_effects.proofs.laws.items_at_work.Goals as goal

pub returns : goal.returns
returns c = at_work
