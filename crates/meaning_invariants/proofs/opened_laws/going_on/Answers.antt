use Rattle.meaning_invariants.proofs.Going.{goes_further}
use Rattle.meaning_invariants.proofs.opened_laws.going_on.Goals as goal

pub returns : goal.returns
returns c = goes_further
