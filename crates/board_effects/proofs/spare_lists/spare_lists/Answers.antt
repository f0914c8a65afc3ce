use Rattle.board_effects.proofs.Spares.{spare_done}
use Rattle.board_effects.proofs.spare_lists.spare_lists.Goals as goal

pub returns : goal.returns
returns c = spare_done c.args.program.now c.args.list.now c.loop-opening.spare.items c.loop-opening.opening-index c.loop-opening-test.false c.loop-opening.invariant
