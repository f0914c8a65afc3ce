use Rattle.syntax.proofs.scripts.Trees.{one_text}
use Rattle.syntax.proofs.laws.at_most_one_tree.Goals as goal

pub returns : goal.returns
returns c = one_text
