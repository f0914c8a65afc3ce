use Rattle.constant_fold.proofs.Scripts.{core_same}
use Rattle.constant_fold.proofs.laws.folding_keeps_the_meaning.Goals as goal

pub returns : goal.returns
returns g = λ t tree w. core_same t tree w
