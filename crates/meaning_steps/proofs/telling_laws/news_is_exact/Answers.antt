use Rattle.meaning_steps.specs.Taken.{Knows}
use Rattle.meaning_steps.proofs.News as law
use Rattle.meaning_steps.proofs.telling_laws.news_is_exact.Goals as goal

pub returns-clause-sound : goal.returns-clause-sound
returns-clause-sound c = λ s fs path g m h r st f l i. law.news_so s (Knows fs) path g m h r st f l i

pub returns-clause-complete : goal.returns-clause-complete
returns-clause-complete c = λ s fs g m sees recalls y f n. law.news_is s (Knows fs) g m sees recalls y n
