use Rattle.swt_command.proofs.Printed.{printed_meant}
use Rattle.swt_command.proofs.laws.printed_reports_are_meant.Goals as goal

pub returns : goal.returns
returns g = printed_meant
