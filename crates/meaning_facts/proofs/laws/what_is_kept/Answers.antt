use Rattle.meaning_facts.proofs.Keeping as law
use Rattle.meaning_facts.proofs.laws.what_is_kept.Goals as goal

pub returns-clause-sees : goal.returns-clause-sees
returns-clause-sees c = λ s l h i within. law.sees_kept s l h i within

pub returns-clause-recalls : goal.returns-clause-recalls
returns-clause-recalls c = λ s l h i within. law.recalls_kept s l h i within

pub returns-clause-lies : goal.returns-clause-lies
returns-clause-lies c = λ s l h i within x. law.name_located s l h i within x
