use Rattle.language_laws.proofs.ArrayLoop.{prints_two_nine}
use Rattle.language_laws.proofs.headers.a_loop_over_an_array_has_a_turn_for_each_element.Goals as goal

pub returns : goal.returns
returns c = prints_two_nine
