use Rattle.language.specs.Resolved.{core}
use Rattle.language_laws.proofs.Ever as law
use Rattle.language_accepted.proofs.Accepted.{accepted_formed}
use Rattle.language_accepted.proofs.laws.one_element.Goals as goal

pub returns : goal.returns
returns c = λ bytes t tree r w h a k u v x f g. law.one_element (core t tree) (accepted_formed bytes t tree r w h) h a k u v x f g
