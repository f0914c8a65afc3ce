use Rattle.language.specs.Resolved.{core}
use Rattle.language_laws.proofs.Ever as law
use Rattle.language_accepted.proofs.Accepted.{accepted_formed}
use Rattle.language_accepted.proofs.laws.meaning_is_closed.Goals as goal

pub returns : goal.returns
returns c = λ bytes t tree r w h f d. law.shut (core t tree) (accepted_formed bytes t tree r w h) h f d
