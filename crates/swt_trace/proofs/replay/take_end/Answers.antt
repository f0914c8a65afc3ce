use Rattle.std.proofs.Common.{refl}
use Rattle.swt_trace.proofs.Steps.{no_end}
use Rattle.swt_trace.proofs.replay.take_end.Goals as goal

pub returns-in_default : goal.returns-in_default
returns-in_default c = (refl, no_end c.args.board.now c.args.worker c.args.item c.in-Err.refusal c.requires.room c.in-Err.ensures.refused c.in_default.not-Memory)
