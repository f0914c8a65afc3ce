use Rattle.swt_trace.proofs.Steps.{no_begin}
use Rattle.swt_trace.proofs.replay.take_begin.Goals as goal

pub returns-in_default : goal.returns-in_default
returns-in_default c =
    (c.in-Err.ensures.unchanged, no_begin c.args.board.now c.args.worker c.args.item c.in-Err.refusal c.requires.room c.in-Err.ensures.refused c.in_default.not-Memory)
