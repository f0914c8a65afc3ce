use Rattle.language.specs.Resolved.{core}
use Rattle.language_laws.proofs.Whole as law
use Rattle.language_accepted.proofs.Accepted.{accepted_formed}
use Rattle.language_accepted.proofs.laws.one_scalar.Goals as goal

pub returns-clause-meaning : goal.returns-clause-meaning
returns-clause-meaning c = λ bytes t tree r w h p v u a b. law.one_scalar (core t tree) (accepted_formed bytes t tree r w h) h p v u a b

pub returns-clause-round : goal.returns-clause-round
returns-clause-round c = λ bytes t tree r w h n p v u a b. law.one_scalar_known (core t tree) (accepted_formed bytes t tree r w h) h n p v u a b
