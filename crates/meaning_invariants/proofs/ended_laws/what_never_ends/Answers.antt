use Rattle.language.specs.Meaning.{Known}
use Rattle.meaning_invariants.specs.Active.{taken_by}
use Rattle.meaning_invariants.proofs.Nevers as law
use Rattle.meaning_invariants.proofs.ended_laws.what_never_ends.Goals as goal

pub returns : goal.returns
returns c = λ s n l ls levels x path b h fs. law.never_finished s (Known s n) (taken_by l ls) levels x path b h fs
