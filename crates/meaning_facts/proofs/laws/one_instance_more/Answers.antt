use Rattle.meaning_facts.proofs.Placing as law
use Rattle.meaning_facts.proofs.laws.one_instance_more.Goals as goal

pub returns : goal.returns
returns c = λ s t u p x g o placed within xs ys lacks fits. law.placed_more s t u p x g o placed.tree placed within xs ys lacks fits
