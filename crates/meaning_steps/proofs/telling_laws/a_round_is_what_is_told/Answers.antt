use Rattle.meaning_steps.proofs.Told as law
use Rattle.meaning_steps.proofs.telling_laws.a_round_is_what_is_told.Goals as goal

pub returns-clause-round : goal.returns-clause-round
returns-clause-round c = λ s w single apart n g m sees recalls f. (law.added s w single apart n g m sees recalls f, law.adds s w single apart n g m sees recalls f)

pub returns-clause-finished : goal.returns-clause-finished
returns-clause-finished c = λ s w single apart n g m sees recalls. (law.no_more s w single apart n g m sees recalls, law.ends s w single apart n g m sees recalls)
