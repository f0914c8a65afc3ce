use Rattle.language_laws.proofs.ArrayScripts.{prints_zero}
use Rattle.language_laws.proofs.arrays.an_array_that_nobody_writes_is_empty.Goals as goal

pub returns : goal.returns
returns c = prints_zero
