use Rattle.headline.proofs.AssertedCores.{asserted_core}
use Rattle.headline.proofs.asserted_cores.Goals as goal

pub returns : goal.returns
returns g = λ t tree. asserted_core t tree
