use Rattle.swt_command.proofs.ReplayPrinted.{one_report}
use Rattle.swt_command.proofs.replay_laws.a_run_and_its_replay_print_one_report.Goals as goal

pub returns : goal.returns
returns g = one_report
