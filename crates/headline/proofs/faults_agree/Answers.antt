use Rattle.language.specs.Meaning.{Meaning}
use Rattle.headline.proofs.FaultsTo.{faults_to}
use Rattle.headline.proofs.Within.{script_right}
use Rattle.headline.proofs.faults_agree.Goals as goal

pub returns : goal.returns
returns g = λ s C w I ex nodes wf kn sc ty single. faults_to s C w (Meaning s) wf kn I sc ty (script_right s C w (Meaning s) wf kn I sc ty nodes ex single)
