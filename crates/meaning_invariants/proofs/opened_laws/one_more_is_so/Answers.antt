use Rattle.language.specs.Meaning.{Known}
use Rattle.meaning_invariants.proofs.Opening.{so_far_opened}
use Rattle.meaning_invariants.proofs.opened_laws.one_more_is_so.Goals as goal

pub returns : goal.returns
returns c = record {
  so = λ s n levels l ls arrays far i w x g u o lacks short xs ys origin. so_far_opened s (Known s n) levels l ls arrays far i w x g u o lacks short xs ys origin;
}
