use Rattle.std.specs.Prelude.{suc, []}
use Rattle.std.proofs.Common.{arith}
use Rattle.language.specs.Meaning.{Known}
use Rattle.language_laws.proofs.Hinge.{grows}
use Rattle.language_laws.proofs.Whole.{later_known}
use Rattle.meaning_invariants.proofs.Learning.{passed_later, so_far_later}
use Rattle.meaning_invariants.proofs.opened_laws.a_round_later_it_is_so.Goals as goal

pub returns : goal.returns
returns c = record {
  so = λ s w single n levels l k ls arrays far holds.
      so_far_later s (Known s n) (Known s (suc n)) (grows s w.names (Known s n) (Known s (suc n)) (later_known s w single n (suc n) (omega arith))) levels l k ls arrays far holds;
  passed = λ s w single n l k ls ps ws p.
      passed_later s (Known s n) (Known s (suc n)) (grows s w.names (Known s n) (Known s (suc n)) (later_known s w single n (suc n) (omega arith))) 0 l k ls [] ps ws p;
}
