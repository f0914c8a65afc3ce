use Rattle.meaning_outcomes.proofs.Exact.{stuck_exact}
use Rattle.meaning_outcomes.proofs.laws.what_is_stuck.Goals as goal

pub returns : goal.returns
returns c = stuck_exact
