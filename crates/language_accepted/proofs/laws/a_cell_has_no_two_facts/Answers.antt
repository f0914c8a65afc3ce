use Rattle.language.specs.Resolved.{core}
use Rattle.language_laws.proofs.CellFaults as law
use Rattle.language_accepted.proofs.Accepted.{accepted_formed, accepted_stmts}
use Rattle.language_accepted.proofs.laws.a_cell_has_no_two_facts.Goals as goal

pub returns-clause-not_both : goal.returns-clause-not_both
returns-clause-not_both c = λ bytes t tree r w h st d m i path v f at x y. law.not_both (core t tree) (accepted_formed bytes t tree r w h) h st d m i (λ z k. (accepted_stmts bytes t tree r).no_cell st z d m k i) path v f at x y

pub returns-clause-one_fault : goal.returns-clause-one_fault
returns-clause-one_fault c = λ bytes t tree r w h st d m i path f g at to x y. law.one_fault (core t tree) (accepted_formed bytes t tree r w h) h st d m i (λ z k. (accepted_stmts bytes t tree r).no_cell st z d m k i) path f g at to x y
