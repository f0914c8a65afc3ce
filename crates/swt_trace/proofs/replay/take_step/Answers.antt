use Rattle.swt_trace.proofs.replay.take_step.Goals as goal

pub returns-in-Begin : goal.returns-in-Begin
returns-in-Begin c = rw c.in-Begin.is c.take_begin.ensures

pub returns-in-End : goal.returns-in-End
returns-in-End c = rw c.in-End.is c.take_end.ensures

pub returns-in-Back : goal.returns-in-Back
returns-in-Back c = rw c.in-Back.is c.take_back.ensures
