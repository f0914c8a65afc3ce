use Rattle.types.proofs.lists.Free.{free}
use Rattle.types.proofs.script.function.Goals as goal

pub drop-scope-requires-6 : goal.drop-scope-requires-6
drop-scope-requires-6 g c κs = (free κs.0, free κs.1.0)

pub drop-scope-requires-in_err-inputs-5 : goal.drop-scope-requires-in_err-inputs-5
drop-scope-requires-in_err-inputs-5 g c κs = (free κs.0, free κs.1.0)
