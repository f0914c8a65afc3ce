use Rattle.board_changes.proofs.Opened.{no_outer}
use Rattle.board_changes.proofs.opening.outer_holds.Goals as goal

pub returns-in-None-clause-reads : goal.returns-in-None-clause-reads
returns-in-None-clause-reads c = no_outer c.args.program.now c.args.number c.in-None.ensures (λ e. e.reads)

pub returns-in-None-clause-writes : goal.returns-in-None-clause-writes
returns-in-None-clause-writes c = no_outer c.args.program.now c.args.number c.in-None.ensures (λ e. e.writes)
