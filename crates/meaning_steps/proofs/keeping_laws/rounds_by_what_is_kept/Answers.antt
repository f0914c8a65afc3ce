use Rattle.language.specs.Meaning.{Known}
use Rattle.language.specs.Resolved.{core}
use Rattle.language_laws.proofs.Whole.{one_scalar_known}
use Rattle.language_accepted.proofs.Accepted.{accepted_formed}
use Rattle.meaning_steps.proofs.Nodes.{accepted_nodes}
use Rattle.meaning_steps.proofs.Told as told
use Rattle.meaning_steps.specs.Kept.{sight_by, past_by}
use Rattle.meaning_steps.proofs.Seen as law
use Rattle.meaning_steps.proofs.keeping_laws.rounds_by_what_is_kept.Goals as goal

pub returns-clause-round : goal.returns-clause-round
returns-clause-round c = λ bytes t tree r w single n k h f.
    let s = core t tree in
    let formed = accepted_formed bytes t tree r w single in
    let nodes = accepted_nodes bytes t tree r in
    let one = one_scalar_known s formed single n in (
      told.added s formed single nodes n (sight_by s k) (past_by s k) (law.sees s (Known s n) k h one) (law.recalls s (Known s n) k h one) f,
      told.adds s formed single nodes n (sight_by s k) (past_by s k) (law.sees s (Known s n) k h one) (law.recalls s (Known s n) k h one) f,
    )

pub returns-clause-finished : goal.returns-clause-finished
returns-clause-finished c = λ bytes t tree r w single n k h.
    let s = core t tree in
    let formed = accepted_formed bytes t tree r w single in
    let nodes = accepted_nodes bytes t tree r in
    let one = one_scalar_known s formed single n in (
      told.no_more s formed single nodes n (sight_by s k) (past_by s k) (law.sees s (Known s n) k h one) (law.recalls s (Known s n) k h one),
      told.ends s formed single nodes n (sight_by s k) (past_by s k) (law.sees s (Known s n) k h one) (law.recalls s (Known s n) k h one),
    )
