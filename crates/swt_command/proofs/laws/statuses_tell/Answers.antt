use Rattle.swt_command.proofs.Causes.{refused_tells, usage_tells}
use Rattle.swt_command.proofs.Endings.{blocked_tells, done_tells, fault_tells, limit_tells}
use Rattle.swt_command.proofs.Halts.{failed_tells, memory_tells, unread_tells, writes_tell}
use Rattle.swt_command.proofs.laws.statuses_tell.Goals as goal

pub returns-clause-refused : goal.returns-clause-refused
returns-clause-refused g = refused_tells

pub returns-clause-usage : goal.returns-clause-usage
returns-clause-usage g = usage_tells

pub returns-clause-done : goal.returns-clause-done
returns-clause-done g = done_tells

pub returns-clause-fault : goal.returns-clause-fault
returns-clause-fault g = fault_tells

pub returns-clause-blocked : goal.returns-clause-blocked
returns-clause-blocked g = blocked_tells

pub returns-clause-limit : goal.returns-clause-limit
returns-clause-limit g = limit_tells

pub returns-clause-memory : goal.returns-clause-memory
returns-clause-memory g = memory_tells

pub returns-clause-failed : goal.returns-clause-failed
returns-clause-failed g = failed_tells

pub returns-clause-writes : goal.returns-clause-writes
returns-clause-writes g = writes_tell

pub returns-clause-unread : goal.returns-clause-unread
returns-clause-unread g = unread_tells
