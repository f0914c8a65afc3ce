use Rattle.headline.proofs.Compact.{meaning_in}
use Rattle.headline.proofs.Halves.{half_backs}
use Rattle.headline.proofs.RoundsOf.{script_clean, half_in}
use Rattle.headline.proofs.rounds_agree.Goals as goal

pub returns-clause-backs : goal.returns-clause-backs
returns-clause-backs g = λ s wf single n clean. half_backs s wf single n clean

pub returns-clause-clean : goal.returns-clause-clean
returns-clause-clean g = λ s C w wf single I sc clean ex. script_clean s C w wf single I sc clean ex

pub returns-clause-half : goal.returns-clause-half
returns-clause-half g = λ s C w wf single I sc clean ex. half_in s C w wf single I sc clean ex

pub returns-clause-meaning : goal.returns-clause-meaning
returns-clause-meaning g = λ s C w wf single I sc clean ex t e f.
    meaning_in s C wf single (script_clean s C w wf single I sc clean ex) (half_in s C w wf single I sc clean ex) t e f
