use Rattle.language_laws.proofs.Whole as law
use Rattle.language_laws.proofs.laws.a_cell_has_one_value_or_fault.Goals as goal

pub returns : goal.returns
returns c = λ s w h n m path f r q x y. law.one_gives s w h n m x y
