use Rattle.board_program.specs.Tables.{body_of}
use Rattle.board_changes.proofs.Opened.{no_writes}
use Rattle.board_changes.proofs.data_state.writes_of.Goals as goal

pub returns-in-None : goal.returns-in-None
returns-in-None c = no_writes c.args.program.now c.args.number c.in-None.ensures (body_of c.args.program.now c.args.number)
