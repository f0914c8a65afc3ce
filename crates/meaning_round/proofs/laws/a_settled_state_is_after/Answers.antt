use Rattle.meaning_round.proofs.Going as law
use Rattle.meaning_round.proofs.laws.a_settled_state_is_after.Goals as goal

pub returns : goal.returns
returns c = λ s w single offsets n l ls arrays waiting telling h tells unready ended. law.settled_after s w single n offsets l ls arrays waiting telling h tells unready ended
