use Rattle.language.specs.Meaning.{Meaning}
use Rattle.headline.proofs.Backing.{backs}
use Rattle.headline.proofs.ElementsFrom.{written_from}
use Rattle.headline.proofs.LinesOf.{lines_to, lines_from}
use Rattle.headline.proofs.WholeTo.{written_to, arrays_once}
use Rattle.headline.proofs.writes_agree.Goals as goal

pub returns-clause-to : goal.returns-clause-to
returns-clause-to g = λ s C w I wf kn sc ty. written_to s C w (Meaning s) wf kn I sc ty

pub returns-clause-from : goal.returns-clause-from
returns-clause-from g = λ s C w I wf kn sc ty. written_from s C w (Meaning s) wf kn I sc ty

pub returns-clause-once : goal.returns-clause-once
returns-clause-once g = λ s C w I wf kn sc ty once. arrays_once s C w (Meaning s) wf kn I sc ty once

pub returns-clause-prints_to : goal.returns-clause-prints_to
returns-clause-prints_to g = λ s C w I wf kn sc ty. lines_to s C w (Meaning s) wf kn I sc ty

pub returns-clause-prints_from : goal.returns-clause-prints_from
returns-clause-prints_from g = λ s C w I wf kn sc. lines_from s C w (Meaning s) wf (backs s (Meaning s) kn) I sc
