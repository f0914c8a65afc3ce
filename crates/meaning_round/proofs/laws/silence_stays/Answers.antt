use Rattle.meaning_round.proofs.Still as law
use Rattle.meaning_round.proofs.laws.silence_stays.Goals as goal

pub returns : goal.returns
returns c = λ l m more t a placed e q. law.silence_stays l m more t placed a e q
