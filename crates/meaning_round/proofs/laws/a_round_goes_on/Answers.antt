use Rattle.meaning_round.proofs.Going as law
use Rattle.meaning_round.proofs.laws.a_round_goes_on.Goals as goal

pub returns : goal.returns
returns c = λ bytes t tree r w single n l ls arrays passed waiting telling news k h after inside added round. law.round_goes bytes t tree r w single n l ls arrays passed waiting telling news k h after inside added round
