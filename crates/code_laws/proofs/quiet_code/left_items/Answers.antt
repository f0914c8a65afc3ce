use Rattle.task_code.specs.System.{code_system}
use Rattle.dataflow.specs.History.{log_of}
use Rattle.dataflow.proofs.Steps.{run_follows}
use Rattle.task_code.proofs.Kept.{code_laws}
use Rattle.code_laws.proofs.Left.{blocked_left}
use Rattle.code_laws.proofs.quiet_code.left_items.Goals as goal

pub returns : goal.returns
returns g = λ C I exact finds follow events s run quiet i there.
    blocked_left C I finds exact follow s (log_of (code_system C) events s run) (run_follows (code_system C) (code_laws C I) events s run) quiet i there
