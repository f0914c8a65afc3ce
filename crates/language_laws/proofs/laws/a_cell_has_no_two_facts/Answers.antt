use Rattle.language_laws.proofs.CellFaults as law
use Rattle.language_laws.proofs.laws.a_cell_has_no_two_facts.Goals as goal

pub returns-clause-not_both : goal.returns-clause-not_both
returns-clause-not_both c = λ s w h st d m i apart path v f at x y. law.not_both s w h st d m i apart path v f at x y

pub returns-clause-one_fault : goal.returns-clause-one_fault
returns-clause-one_fault c = λ s w h st d m i apart path f g at to x y. law.one_fault s w h st d m i apart path f g at to x y
