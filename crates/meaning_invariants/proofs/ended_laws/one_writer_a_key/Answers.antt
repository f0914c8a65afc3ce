use Rattle.language.specs.Meaning.{Known}
use Rattle.meaning_invariants.proofs.Apart as law
use Rattle.meaning_invariants.proofs.ended_laws.one_writer_a_key.Goals as goal

pub returns-clause-so : goal.returns-clause-so
returns-clause-so c = λ s n l tree keeps i within node h. law.one_so (Known s n) l tree keeps i within node h

pub returns-clause-all : goal.returns-clause-all
returns-clause-all c = λ s n l tree keeps i within node h. law.one_all (Known s n) l tree keeps i within node h
