use Rattle.language_laws.proofs.Ever as law
use Rattle.language_laws.proofs.laws.one_writer.Goals as goal

pub returns : goal.returns
returns c = λ s w h clean a. law.one_writer s w h clean a
