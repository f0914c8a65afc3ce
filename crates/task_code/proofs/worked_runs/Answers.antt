use Rattle.task_code.proofs.WorkedRuns.{hello_runs, second_write_faults, waits_for_assignment}
use Rattle.task_code.proofs.worked_runs.Goals as goal

pub returns-clause-hello : goal.returns-clause-hello
returns-clause-hello g = hello_runs

pub returns-clause-second_write : goal.returns-clause-second_write
returns-clause-second_write g = second_write_faults

pub returns-clause-waits : goal.returns-clause-waits
returns-clause-waits g = waits_for_assignment
