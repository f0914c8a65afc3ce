use Rattle.language_laws.proofs.Ever as law
use Rattle.language_laws.proofs.laws.meaning_is_closed.Goals as goal

pub returns : goal.returns
returns c = λ s w h f d. law.shut s w h f d
