use Rattle.syntax.proofs.scripts.Verdicts.{one_refusal}
use Rattle.syntax.proofs.laws.at_most_one_refusal.Goals as goal

pub returns : goal.returns
returns c = one_refusal
