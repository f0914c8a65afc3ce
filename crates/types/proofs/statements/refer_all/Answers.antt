use Rattle.types.proofs.lists.Turns.{turns_left}
use Rattle.types.proofs.lists.Free.{free}
use Rattle.types.proofs.statements.refer_all.Goals as goal

pub loop-name-smaller : goal.loop-name-smaller
loop-name-smaller g c = turns_left _ _ c.loop-name-test.true

pub drop-types-requires : goal.drop-types-requires
drop-types-requires g c κs = (free κs.0, free κs.1.0)
