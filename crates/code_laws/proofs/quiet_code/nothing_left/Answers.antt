use Rattle.task_code.specs.System.{code_system}
use Rattle.dataflow.specs.History.{log_of}
use Rattle.dataflow.proofs.Keeping.{data_exact}
use Rattle.dataflow.proofs.Steps.{run_follows}
use Rattle.task_code.proofs.Kept.{code_laws}
use Rattle.code_laws.proofs.Left.{none_left}
use Rattle.code_laws.proofs.quiet_code.nothing_left.Goals as goal

pub returns-clause-items : goal.returns-clause-items
returns-clause-items g = λ C I exact finds follow events s run quiet none.
    none_left C I finds exact follow s (log_of (code_system C) events s run) (run_follows (code_system C) (code_laws C I) events s run) quiet none

pub returns-clause-data : goal.returns-clause-data
returns-clause-data g = λ C I exact finds follow events s run quiet none tidy.
    let log = log_of (code_system C) events s run in
    let f = run_follows (code_system C) (code_laws C I) events s run in
    (data_exact (code_system C) (code_laws C I) s log f tidy).none_left (none_left C I finds exact follow s log f quiet none)
