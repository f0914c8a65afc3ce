use Rattle.language_accepted.proofs.Apart.{read_placed}
use Rattle.language_accepted.proofs.read_trees_are_placed.Goals as goal

pub returns : goal.returns
returns g = λ bytes tree r. read_placed bytes tree r
