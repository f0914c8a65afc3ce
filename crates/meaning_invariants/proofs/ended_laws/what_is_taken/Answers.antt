use Rattle.language.specs.Meaning.{Known}
use Rattle.meaning_invariants.proofs.Sights as law
use Rattle.meaning_invariants.proofs.ended_laws.what_is_taken.Goals as goal

pub returns-clause-sees : goal.returns-clause-sees
returns-clause-sees c = λ s n l ls placed keeps apart i within. law.sees s (Known s n) l ls placed keeps apart i within

pub returns-clause-come_so : goal.returns-clause-come_so
returns-clause-come_so c = λ s l ls placed i within ns e x m. law.come_so s l ls placed i within ns e x m

pub returns-clause-come_all : goal.returns-clause-come_all
returns-clause-come_all c = λ s l ls placed i within ns f. law.come_all s l ls placed i within ns f
