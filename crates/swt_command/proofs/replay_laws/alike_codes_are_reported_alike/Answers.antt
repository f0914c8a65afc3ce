use Rattle.swt_command.proofs.Alike.{reports_alike}
use Rattle.swt_command.proofs.replay_laws.alike_codes_are_reported_alike.Goals as goal

pub returns : goal.returns
returns g = reports_alike
