use Rattle.types.proofs.answered.BreaksScript.{refusal_names}
use Rattle.types.proofs.answered.UnbrokenScript.{breaks_nothing}
use Rattle.types.proofs.laws.what_refusals_name.Goals as goal

pub returns : goal.returns
returns c = record { names = refusal_names; nothing = breaks_nothing }
