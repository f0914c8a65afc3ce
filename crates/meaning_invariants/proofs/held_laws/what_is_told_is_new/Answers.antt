use Rattle.language.specs.Meaning.{Known}
use Rattle.language.specs.Resolved.{core}
use Rattle.language_laws.proofs.Whole.{one_scalar_known}
use Rattle.language_accepted.proofs.Accepted.{accepted_formed}
use Rattle.meaning_steps.specs.Kept.{sight_by, past_by}
use Rattle.meaning_steps.proofs.Seen as seen
use Rattle.meaning_facts.specs.Keeping.{kept_of}
use Rattle.meaning_invariants.proofs.Fresh as law
use Rattle.meaning_invariants.proofs.held_laws.what_is_told_is_new.Goals as goal

pub returns : goal.returns
returns c = λ bytes t tree r w single n l placed keeps holds f x.
    let s = core t tree in
    let one = one_scalar_known s (accepted_formed bytes t tree r w single) single n in
    law.news_fresh s (Known s n) x.path (sight_by s (kept_of l) x.path) (past_by s (kept_of l) x.path)
    (seen.sees s (Known s n) (kept_of l) keeps one x.path) (seen.recalls s (Known s n) (kept_of l) keeps one x.path)
    (law.recalls_all s (Known s n) l placed holds x.path) x.st f x.told
