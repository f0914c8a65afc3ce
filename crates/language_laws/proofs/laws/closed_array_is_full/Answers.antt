use Rattle.language_laws.proofs.Ever as law
use Rattle.language_laws.proofs.laws.closed_array_is_full.Goals as goal

pub returns : goal.returns
returns c = λ s w h n a d k u v f. law.closed_full s w h n a d k u v f
