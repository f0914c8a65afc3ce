use Rattle.language_laws.proofs.Instances as law
use Rattle.language_laws.proofs.laws.live_paths_are_bounded.Goals as goal

pub returns : goal.returns
returns c = λ s path b l. law.path_bound l
