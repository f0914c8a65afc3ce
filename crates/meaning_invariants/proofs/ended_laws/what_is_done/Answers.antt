use Rattle.language.specs.Meaning.{Known}
use Rattle.meaning_invariants.proofs.Ending as back
use Rattle.meaning_invariants.proofs.Finishing as law
use Rattle.meaning_invariants.proofs.ended_laws.what_is_done.Goals as goal

pub returns-clause-finished : goal.returns-clause-finished
returns-clause-finished c = λ s n l ls placed keeps apart g d within st m. law.finished s (Known s n) l ls placed keeps apart g d within st m

pub returns-clause-ended : goal.returns-clause-ended
returns-clause-ended c = λ s n l ls placed keeps right open_all indexes g within listed fs. back.done_by s (Known s n) l ls placed keeps right open_all indexes g within listed fs
