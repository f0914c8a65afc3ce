use Rattle.language_laws.proofs.Ever as law
use Rattle.language_laws.proofs.laws.one_value.Goals as goal

pub returns : goal.returns
returns c = λ s w h p v u a b. law.one_value s w h p v u a b
