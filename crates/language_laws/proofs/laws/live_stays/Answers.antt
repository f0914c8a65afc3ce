use Rattle.language_laws.proofs.Ever as law
use Rattle.language_laws.proofs.laws.live_stays.Goals as goal

pub returns : goal.returns
returns c = λ s w h n m path b l d. law.live_stays s w h n m path b l d
