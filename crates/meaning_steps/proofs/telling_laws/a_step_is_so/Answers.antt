use Rattle.meaning_steps.specs.Taken.{taken, Knows}
use Rattle.meaning_steps.proofs.Settled as law
use Rattle.meaning_steps.proofs.telling_laws.a_step_is_so.Goals as goal

pub returns : goal.returns
returns c = λ s fs ls cs vs so. law.follows_so s (Knows fs) (taken ls cs vs) so so
