use Rattle.swt_command.proofs.Reported.{reported, reported_fault, reported_part}
use Rattle.swt_command.proofs.laws.reports_are_meant.Goals as goal

pub returns-clause-quiet : goal.returns-clause-quiet
returns-clause-quiet g = reported

pub returns-clause-part : goal.returns-clause-part
returns-clause-part g = reported_part

pub returns-clause-fault : goal.returns-clause-fault
returns-clause-fault g = reported_fault
