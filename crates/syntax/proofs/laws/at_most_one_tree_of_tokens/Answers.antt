use Rattle.syntax.proofs.scripts.Scripts.{one_tree}
use Rattle.syntax.proofs.laws.at_most_one_tree_of_tokens.Goals as goal

pub returns : goal.returns
returns c = one_tree
