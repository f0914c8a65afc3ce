use Rattle.board_changes.proofs.Opened.{no_own}
use Rattle.board_changes.proofs.opening.local_variables.Goals as goal

pub returns-in-None : goal.returns-in-None
returns-in-None c = no_own c.args.program.now c.args.number c.in-None.ensures
