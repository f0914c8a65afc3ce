use Rattle.swt_trace.proofs.Steps.{no_back}
use Rattle.swt_trace.proofs.replay.take_back.Goals as goal

pub returns-in-Err : goal.returns-in-Err
returns-in-Err c = (c.in-Err.ensures.unchanged, no_back c.args.board.now c.args.worker c.args.item _ c.requires.room c.in-Err.ensures.refused)
