use Rattle.language.specs.Resolved.{core}
use Rattle.language_laws.proofs.Whole as law
use Rattle.language_accepted.proofs.Accepted.{accepted_formed}
use Rattle.language_accepted.proofs.laws.a_closed_array_is_a_list.Goals as goal

pub returns-clause-meaning : goal.returns-clause-meaning
returns-clause-meaning c = λ bytes t tree r w h a d. law.listed_meaning (core t tree) (accepted_formed bytes t tree r w h) h a d

pub returns-clause-round : goal.returns-clause-round
returns-clause-round c = λ bytes t tree r w h n a d. law.listed_known (core t tree) (accepted_formed bytes t tree r w h) h n a d
