use Rattle.language.specs.Meaning.{Meaning}
use Rattle.headline.proofs.ClosingTo.{closed_to}
use Rattle.headline.proofs.Within.{script_closed}
use Rattle.headline.proofs.closed_agrees.Goals as goal

pub returns-clause-to : goal.returns-clause-to
returns-clause-to g = λ s C w I wf kn sc ty. closed_to s C w (Meaning s) wf kn I sc ty

pub returns-clause-from : goal.returns-clause-from
returns-clause-from g = λ s C w I wf kn sc ty once ex single. script_closed s C w (Meaning s) wf kn I sc ty once ex single
