use Rattle.language_laws.proofs.OneCore as law
use Rattle.language_laws.proofs.laws.one_core.Goals as goal

pub returns : goal.returns
returns c = λ tree t u p q. law.one_core tree t u p q
