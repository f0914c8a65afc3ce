use Rattle.std.specs.Prelude.{IsTrue}
use Rattle.language.specs.Resolved.{core}
use Rattle.language_laws.proofs.Ever as law
use Rattle.language_accepted.proofs.Accepted.{accepted_formed}
use Rattle.language_accepted.proofs.laws.meaning_is_least.Goals as goal

pub returns : goal.returns
returns c = λ bytes t tree r w h test a b d e f m. law.least (core t tree) (accepted_formed bytes t tree r w h) h (λ g. IsTrue (test g)) a b d e f m
