use Rattle.language_laws.proofs.Whole as law
use Rattle.language_laws.proofs.laws.one_scalar.Goals as goal

pub returns-clause-meaning : goal.returns-clause-meaning
returns-clause-meaning c = λ s w h p v u a b. law.one_scalar s w h p v u a b

pub returns-clause-round : goal.returns-clause-round
returns-clause-round c = λ s w h n p v u a b. law.one_scalar_known s w h n p v u a b
