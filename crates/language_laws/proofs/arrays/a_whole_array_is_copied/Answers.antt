use Rattle.language_laws.proofs.CopyScript.{prints_copied}
use Rattle.language_laws.proofs.arrays.a_whole_array_is_copied.Goals as goal

pub returns : goal.returns
returns c = prints_copied
