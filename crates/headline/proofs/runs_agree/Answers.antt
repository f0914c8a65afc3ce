use Rattle.headline.proofs.HeadlineOf.{state_agrees}
use Rattle.headline.proofs.runs_agree.Goals as goal

pub returns : goal.returns
returns g = λ s C w I ex nodes wf single sc ty clean events st run. state_agrees s C w I ex nodes wf single sc ty clean events st run
