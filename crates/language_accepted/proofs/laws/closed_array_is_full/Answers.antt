use Rattle.language.specs.Resolved.{core}
use Rattle.language_laws.proofs.Ever as law
use Rattle.language_accepted.proofs.Accepted.{accepted_formed}
use Rattle.language_accepted.proofs.laws.closed_array_is_full.Goals as goal

pub returns : goal.returns
returns c = λ bytes t tree r w h n a d k u v f. law.closed_full (core t tree) (accepted_formed bytes t tree r w h) h n a d k u v f
