use Rattle.swt_trace.proofs.Lines.{no_first_line}
use Rattle.swt_trace.proofs.read.read_trace.Goals as goal

pub returns-clause-bad : goal.returns-clause-bad
returns-clause-bad c = no_first_line c.args.bytes.now c.in_default.ensures.none c.in_default-behind_ended.ensures.none
