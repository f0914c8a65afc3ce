use Rattle.language.specs.Meaning.{Known}
use Rattle.language_laws.proofs.Whole.{one_scalar_known}
use Rattle.meaning_invariants.proofs.Indexes.{has_indexes}
use Rattle.meaning_invariants.proofs.Settling as law
use Rattle.meaning_invariants.proofs.ended_laws.what_is_settled.Goals as goal

pub returns-clause-keeps : goal.returns-clause-keeps
returns-clause-keeps c = λ s w single n levels l ls arrays placed keeps right open_all close_all.
    law.keeps_all s (Known s n) l ls levels arrays w.names placed keeps right open_all close_all (has_indexes s w single n) (one_scalar_known s w single n)

pub returns-clause-live : goal.returns-clause-live
returns-clause-live c = λ s w single n levels l ls arrays placed keeps right open_all close_all path st live.
    law.listed_all s (Known s n) l ls levels arrays w.names placed keeps right open_all close_all (has_indexes s w single n) (one_scalar_known s w single n) path st live
