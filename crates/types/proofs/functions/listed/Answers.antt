use Rattle.types.proofs.lists.Turns.{turns_left}
use Rattle.types.proofs.functions.listed.Goals as goal

pub loop-item-smaller : goal.loop-item-smaller
loop-item-smaller g c = turns_left _ _ c.loop-item-test.true
