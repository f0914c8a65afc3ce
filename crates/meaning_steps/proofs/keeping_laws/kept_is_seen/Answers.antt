use Rattle.language.specs.Meaning.{Known}
use Rattle.meaning_steps.proofs.Seen as law
use Rattle.meaning_steps.proofs.keeping_laws.kept_is_seen.Goals as goal

pub returns-clause-sees : goal.returns-clause-sees
returns-clause-sees c = λ s n k h one path. law.sees s (Known s n) k h one path

pub returns-clause-recalls : goal.returns-clause-recalls
returns-clause-recalls c = λ s n k h one path. law.recalls s (Known s n) k h one path
