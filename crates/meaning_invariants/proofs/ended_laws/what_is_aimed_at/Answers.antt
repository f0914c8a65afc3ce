use Rattle.meaning_invariants.proofs.Aiming as law
use Rattle.meaning_invariants.proofs.ended_laws.what_is_aimed_at.Goals as goal

pub returns-clause-so : goal.returns-clause-so
returns-clause-so c = λ x st e. law.aims_so x st e

pub returns-clause-all : goal.returns-clause-all
returns-clause-all c = λ x st m. law.aims_all x st m
