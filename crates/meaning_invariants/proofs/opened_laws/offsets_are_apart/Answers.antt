use Rattle.meaning_invariants.proofs.Offsets.{offsets_apart}
use Rattle.meaning_invariants.proofs.opened_laws.offsets_are_apart.Goals as goal

pub returns : goal.returns
returns c = λ t tree placed. offsets_apart t tree placed
