use Rattle.headline.proofs.HeadlineOf.{headline_of, quiet_clean}
use Rattle.headline.proofs.headline.Goals as goal

pub returns-clause-every_run : goal.returns-clause-every_run
returns-clause-every_run g = λ s C w I ex nodes wf single sc ty asserts. headline_of s C w I ex nodes wf single sc ty asserts

pub returns-clause-clean : goal.returns-clause-clean
returns-clause-clean g = λ s C w I ex nodes wf single sc ty events st run quiet. quiet_clean s C w I ex nodes wf single sc ty events st run quiet
