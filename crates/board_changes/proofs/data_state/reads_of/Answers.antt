use Rattle.board_program.specs.Tables.{body_of}
use Rattle.board_changes.proofs.Opened.{no_reads}
use Rattle.board_changes.proofs.data_state.reads_of.Goals as goal

pub returns-in-None : goal.returns-in-None
returns-in-None c = no_reads c.args.program.now c.args.number c.in-None.ensures (body_of c.args.program.now c.args.number)
