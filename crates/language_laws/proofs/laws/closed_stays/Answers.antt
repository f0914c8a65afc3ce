use Rattle.language_laws.proofs.Ever as law
use Rattle.language_laws.proofs.laws.closed_stays.Goals as goal

pub returns : goal.returns
returns c = λ s w h n m a l d. law.closed_stays s w h n m a l d
