use Rattle.language.specs.Resolved.{core}
use Rattle.language_accepted.proofs.Accepted.{accepted_formed}
use Rattle.meaning_steps.proofs.Nodes.{accepted_nodes}
use Rattle.meaning_steps.proofs.Told as law
use Rattle.meaning_steps.proofs.telling_laws.accepted_rounds.Goals as goal

pub returns-clause-nodes : goal.returns-clause-nodes
returns-clause-nodes c = λ bytes t tree r. accepted_nodes bytes t tree r

pub returns-clause-round : goal.returns-clause-round
returns-clause-round c = λ bytes t tree r w single n g m sees recalls f. (
  law.added (core t tree) (accepted_formed bytes t tree r w single) single (accepted_nodes bytes t tree r) n g m sees recalls f,
  law.adds (core t tree) (accepted_formed bytes t tree r w single) single (accepted_nodes bytes t tree r) n g m sees recalls f,
)

pub returns-clause-finished : goal.returns-clause-finished
returns-clause-finished c = λ bytes t tree r w single n g m sees recalls. (
  law.no_more (core t tree) (accepted_formed bytes t tree r w single) single (accepted_nodes bytes t tree r) n g m sees recalls,
  law.ends (core t tree) (accepted_formed bytes t tree r w single) single (accepted_nodes bytes t tree r) n g m sees recalls,
)
