use Rattle.swt_trace.proofs.Lines
use Rattle.swt_trace.proofs.traces_are_exact.Goals as goal

pub returns-clause-one_meaning : goal.returns-clause-one_meaning
returns-clause-one_meaning c = Lines.one_meaning

pub returns-clause-one_text : goal.returns-clause-one_text
returns-clause-one_text c = Lines.one_text

pub returns-clause-written : goal.returns-clause-written
returns-clause-written c = Lines.written

pub returns-clause-bad : goal.returns-clause-bad
returns-clause-bad c = Lines.bad

pub returns-clause-first_bad : goal.returns-clause-first_bad
returns-clause-first_bad c = Lines.first_bad
