use Rattle.meaning_invariants.proofs.Indexes as law
use Rattle.meaning_invariants.proofs.ended_laws.what_was_indexed.Goals as goal

pub returns : goal.returns
returns c = λ s w single n. law.has_indexes s w single n
