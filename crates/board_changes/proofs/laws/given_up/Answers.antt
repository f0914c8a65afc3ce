use Rattle.board_changes.proofs.Rights.{covers}
use Rattle.board_changes.proofs.laws.given_up.Goals as goal

pub returns : goal.returns
returns g = λ C I L es F x n row there live os s cells. covers C I L es F x n row there live os s cells
