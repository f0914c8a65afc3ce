use Rattle.language.specs.Resolved.{core}
use Rattle.language_accepted.proofs.Accepted.{accepted_formed}
use Rattle.meaning_steps.proofs.Nodes.{accepted_nodes}
use Rattle.meaning_invariants.proofs.Rounds as law
use Rattle.meaning_invariants.proofs.held_laws.a_round_is_held.Goals as goal

pub returns : goal.returns
returns c = λ bytes t tree r w single n l fs k placed h added within round.
    law.round_held (core t tree) (accepted_formed bytes t tree r w single) single (accepted_nodes bytes t tree r) n l fs k placed h added within round
