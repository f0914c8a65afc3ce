use Rattle.code_laws.proofs.Runs.{quiet_alike, runs_alike}
use Rattle.code_laws.proofs.equal_codes.alike_codes_run_alike.Goals as goal

pub returns-clause-runs : goal.returns-clause-runs
returns-clause-runs g = runs_alike

pub returns-clause-quiet : goal.returns-clause-quiet
returns-clause-quiet g = quiet_alike
