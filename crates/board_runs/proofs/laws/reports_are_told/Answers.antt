use Rattle.board_runs.proofs.Told.{told}
use Rattle.board_runs.proofs.laws.reports_are_told.Goals as goal

pub returns : goal.returns
returns c = told
