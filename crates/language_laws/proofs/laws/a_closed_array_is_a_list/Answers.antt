use Rattle.language_laws.proofs.Whole as law
use Rattle.language_laws.proofs.laws.a_closed_array_is_a_list.Goals as goal

pub returns-clause-meaning : goal.returns-clause-meaning
returns-clause-meaning c = λ s w h a d. law.listed_meaning s w h a d

pub returns-clause-round : goal.returns-clause-round
returns-clause-round c = λ s w h n a d. law.listed_known s w h n a d
