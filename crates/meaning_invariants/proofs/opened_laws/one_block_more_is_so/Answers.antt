use Rattle.language.specs.Meaning.{Known}
use Rattle.meaning_invariants.proofs.Entering.{entered}
use Rattle.meaning_invariants.proofs.opened_laws.one_block_more_is_so.Goals as goal

pub returns : goal.returns
returns c = λ s n levels l ls arrays far i x g b opening m child found. (entered s (Known s n) levels l ls arrays far i x g b opening m child found).so
