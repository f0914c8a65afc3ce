use Rattle.code_laws.proofs.Room.{room_in}
use Rattle.code_laws.proofs.Sizes.{size_within}
use Rattle.code_laws.proofs.code_size.script_sizes.Goals as goal

pub returns-clause-within : goal.returns-clause-within
returns-clause-within g = λ t tree. size_within t tree

pub returns-clause-room : goal.returns-clause-room
returns-clause-room g = λ t tree p w light. room_in t tree p w light
