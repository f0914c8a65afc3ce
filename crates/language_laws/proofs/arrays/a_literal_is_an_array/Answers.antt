use Rattle.language_laws.proofs.ArrayScripts.{prints_two_five}
use Rattle.language_laws.proofs.arrays.a_literal_is_an_array.Goals as goal

pub returns : goal.returns
returns c = prints_two_five
