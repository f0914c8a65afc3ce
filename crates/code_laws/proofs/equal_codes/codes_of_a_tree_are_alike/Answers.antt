use Rattle.code_laws.proofs.Trees.{codes_alike}
use Rattle.code_laws.proofs.equal_codes.codes_of_a_tree_are_alike.Goals as goal

pub returns : goal.returns
returns g = codes_alike
