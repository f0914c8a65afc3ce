use Rattle.meaning_round.proofs.Meant as law
use Rattle.meaning_round.proofs.laws.told_is_news.Goals as goal

pub returns : goal.returns
returns c = λ s l t a lies. law.told_is_news s l t lies a
