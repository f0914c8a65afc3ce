use Rattle.swt_command.proofs.Printed.{run_prints, replay_prints}
use Rattle.swt_command.proofs.laws.runs_print_the_meaning.Goals as goal

pub returns-clause-run : goal.returns-clause-run
returns-clause-run g = run_prints

pub returns-clause-replay : goal.returns-clause-replay
returns-clause-replay g = replay_prints
