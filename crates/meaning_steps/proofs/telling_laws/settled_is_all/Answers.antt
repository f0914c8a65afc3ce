use Rattle.meaning_steps.specs.Taken.{taken, Knows}
use Rattle.meaning_steps.proofs.Settled as law
use Rattle.meaning_steps.proofs.telling_laws.settled_is_all.Goals as goal

pub returns-clause-live : goal.returns-clause-live
returns-clause-live c = λ s fs ls cs vs so all path st. (so.live path st, law.stmt_taken s (Knows fs) (taken ls cs vs) all)

pub returns-clause-closed : goal.returns-clause-closed
returns-clause-closed c = λ s fs ls cs vs so all a. (so.closed a, law.closed_taken s (Knows fs) (taken ls cs vs) all)

pub returns-clause-has : goal.returns-clause-has
returns-clause-has c = λ s fs ls cs vs so all p v. (so.has p v, law.has_taken s (Knows fs) (taken ls cs vs) all)

pub returns-clause-ready : goal.returns-clause-ready
returns-clause-ready c = λ s fs ls cs vs so all path h us. (law.ready_so s (Knows fs) (taken ls cs vs) so, law.ready_taken s (Knows fs) (taken ls cs vs) all)

pub returns-clause-finished : goal.returns-clause-finished
returns-clause-finished c = λ s fs ls cs vs so all a path st. (law.finished_so s (Knows fs) (taken ls cs vs) so, law.finished_taken s (Knows fs) (taken ls cs vs) all)
