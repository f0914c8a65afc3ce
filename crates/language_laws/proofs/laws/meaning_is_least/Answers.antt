use Rattle.std.specs.Prelude.{IsTrue}
use Rattle.language_laws.proofs.Ever as law
use Rattle.language_laws.proofs.laws.meaning_is_least.Goals as goal

pub returns : goal.returns
returns c = λ s w h test a b d e f m. law.least s w h (λ g. IsTrue (test g)) a b d e f m
