use Rattle.constant_fold.proofs.Placed.{folded_placed}
use Rattle.constant_fold.proofs.Smaller.{tree_small}
use Rattle.constant_fold.proofs.laws.folds_are_placed.Goals as goal

pub returns-clause-placed : goal.returns-clause-placed
returns-clause-placed g = λ tree p. folded_placed tree p

pub returns-clause-small : goal.returns-clause-small
returns-clause-small g = λ tree. tree_small tree
