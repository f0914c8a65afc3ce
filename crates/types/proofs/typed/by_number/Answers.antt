use Rattle.types.proofs.lists.Turns.{turns_left}
use Rattle.types.proofs.typed.by_number.Goals as goal

pub loop-one-smaller : goal.loop-one-smaller
loop-one-smaller c = turns_left _ _ c.loop-one-test.true
