use Rattle.language.specs.Resolved.{core}
use Rattle.language_laws.proofs.Ever as law
use Rattle.language_accepted.proofs.Accepted.{accepted_formed}
use Rattle.language_accepted.proofs.laws.one_value.Goals as goal

pub returns : goal.returns
returns c = λ bytes t tree r w h p v u a b. law.one_value (core t tree) (accepted_formed bytes t tree r w h) h p v u a b
