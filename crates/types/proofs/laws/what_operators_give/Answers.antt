use Rattle.types.proofs.accepted.Typing.{gives_sound, gives_complete, prefix_sound}
use Rattle.types.proofs.laws.what_operators_give.Goals as goal

pub returns-clause-between : goal.returns-clause-between
returns-clause-between c = λ o b d. (gives_sound o b d, gives_complete o b d)

pub returns-clause-before : goal.returns-clause-before
returns-clause-before c = prefix_sound
