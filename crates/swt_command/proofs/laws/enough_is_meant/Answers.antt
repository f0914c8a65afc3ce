use Rattle.swt_command.proofs.Enough.{enough_is_meant}
use Rattle.swt_command.proofs.laws.enough_is_meant.Goals as goal

pub returns : goal.returns
returns g = enough_is_meant
