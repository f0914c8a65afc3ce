use Rattle.meaning_facts.proofs.Keeping as law
use Rattle.meaning_facts.proofs.laws.instances_by_paths.Goals as goal

pub returns-clause-found : goal.returns-clause-found
returns-clause-found c = λ t h i l. law.at_path_of t h i l

pub returns-clause-there : goal.returns-clause-there
returns-clause-there c = λ t h p i e. law.found_there t h p i e

pub returns-clause-one : goal.returns-clause-one
returns-clause-one c = λ t h i j a b e. law.one_instance t h i j a b e
