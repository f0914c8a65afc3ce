use Rattle.language.specs.Meaning.{Meaning}
use Rattle.headline.proofs.Within.{ever_in, clean_code}
use Rattle.headline.proofs.code_within_script.Goals as goal

pub returns-clause-facts : goal.returns-clause-facts
returns-clause-facts g = λ s C w I wf kn sc ty once ex single t e h. ever_in s C w (Meaning s) wf kn I sc ty once ex single t e h

pub returns-clause-clean : goal.returns-clause-clean
returns-clause-clean g = λ s C w I wf kn sc ty once ex single. clean_code s C w (Meaning s) wf kn I sc ty once ex single
