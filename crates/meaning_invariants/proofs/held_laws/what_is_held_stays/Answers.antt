use Rattle.language.specs.Meaning.{Known}
use Rattle.meaning_invariants.proofs.HeldOpening as law
use Rattle.meaning_invariants.proofs.held_laws.what_is_held_stays.Goals as goal

pub returns : goal.returns
returns c = λ s n l t a b g h. law.holds_still (Known s n) l t a b g h
