use Rattle.language.specs.Resolved.{core}
use Rattle.language_laws.proofs.Whole as law
use Rattle.language_accepted.proofs.Accepted.{accepted_formed}
use Rattle.language_accepted.proofs.laws.a_cell_has_one_value_or_fault.Goals as goal

pub returns : goal.returns
returns c = λ bytes t tree r w h n m path f q u x y. law.one_gives (core t tree) (accepted_formed bytes t tree r w h) h n m x y
