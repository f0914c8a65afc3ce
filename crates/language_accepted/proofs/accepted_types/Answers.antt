use Rattle.language_accepted.proofs.Accepted.{placed_types}
use Rattle.language_accepted.proofs.accepted_types.Goals as goal

pub returns : goal.returns
returns g = λ t tree p w. placed_types t tree p w
