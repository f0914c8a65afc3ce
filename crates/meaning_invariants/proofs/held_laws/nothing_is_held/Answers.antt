use Rattle.meaning_invariants.proofs.Rounds as law
use Rattle.meaning_invariants.proofs.held_laws.nothing_is_held.Goals as goal

pub returns : goal.returns
returns c = λ s l e. law.nothing_held l e s
