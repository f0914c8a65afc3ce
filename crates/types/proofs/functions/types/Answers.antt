use Rattle.types.proofs.lists.Turns.{turns_left}
use Rattle.types.proofs.functions.types.Goals as goal

pub loop-decl-smaller : goal.loop-decl-smaller
loop-decl-smaller g c = turns_left _ _ c.loop-decl-test.true
