use Rattle.emit_cells.proofs.Lays.{parts_laid}
use Rattle.emit_cells.proofs.laws.parts_are_laid.Goals as goal

pub returns : goal.returns
returns c = λ fs k all at p s t more entries bodies chunk. parts_laid fs k all at p s t more entries bodies chunk
