use Rattle.std.proofs.Common.{refl}
use Rattle.board_history.proofs.WorkedFields.{assigned_stand, opened_stand}
use Rattle.board_history.proofs.worked_replays.Goals as goal

pub returns-clause-hello : goal.returns-clause-hello
returns-clause-hello g = (_, refl, refl, refl, refl)

pub returns-clause-waits : goal.returns-clause-waits
returns-clause-waits g = refl

pub returns-clause-leaves : goal.returns-clause-leaves
returns-clause-leaves g = (_, refl, refl, refl, refl)

pub returns-clause-opened : goal.returns-clause-opened
returns-clause-opened g = opened_stand

pub returns-clause-assigned : goal.returns-clause-assigned
returns-clause-assigned g = assigned_stand
