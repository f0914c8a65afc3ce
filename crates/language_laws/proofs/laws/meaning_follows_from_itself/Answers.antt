use Rattle.language_laws.proofs.Ever as law
use Rattle.language_laws.proofs.laws.meaning_follows_from_itself.Goals as goal

pub returns : goal.returns
returns c = λ s w h clean f. law.follows s w h clean f
