use Rattle.std.proofs.Common.{arith}
use Rattle.language.specs.Meaning.{Known}
use Rattle.language_laws.proofs.Whole.{later_known}
use Rattle.meaning_invariants.proofs.Final.{all_open}
use Rattle.meaning_invariants.proofs.Right.{is_right}
use Rattle.meaning_invariants.proofs.opened_laws.all_is_open.Goals as goal

pub returns : goal.returns
returns c = record {
  opened = λ s w single offsets n levels l ls arrays far ws passed unready. all_open s w.names offsets (Known s n) (later_known s w single n n (omega arith)) levels l ls arrays far ws passed unready;
  right = λ s n levels l ls arrays far. is_right s (Known s n) levels l ls arrays far;
}
