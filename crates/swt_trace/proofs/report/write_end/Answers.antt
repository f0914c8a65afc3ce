use Rattle.swt_trace.proofs.report.write_end.Goals as goal

pub returns-in-Quiet-clause-err : goal.returns-in-Quiet-clause-err
returns-in-Quiet-clause-err g c = rw c.in-Quiet.is c.write_blocked.ensures.err

pub returns-in-Fault-clause-err : goal.returns-in-Fault-clause-err
returns-in-Fault-clause-err g c = rw c.in-Fault.is c.write_fault.ensures.err
