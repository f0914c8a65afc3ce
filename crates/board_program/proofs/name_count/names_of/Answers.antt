use Rattle.board_program.proofs.Most.{reads_past, writes_past}
use Rattle.board_program.proofs.name_count.names_of.Goals as goal

pub returns-in-None-clause-reads : goal.returns-in-None-clause-reads
returns-in-None-clause-reads c = reads_past c.args.code.now c.args.number 0 c.in-None.ensures

pub returns-in-None-clause-writes : goal.returns-in-None-clause-writes
returns-in-None-clause-writes c = writes_past c.args.code.now c.args.number 0 c.in-None.ensures
