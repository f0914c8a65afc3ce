use Rattle.ref_counting.proofs.Making.{more_made}
use Rattle.ref_counting.proofs.declarations.declarations.Goals as goal

pub loop-number-preserved : goal.loop-number-preserved
loop-number-preserved c = more_made c.args.code.now c.loop-number.number c.loop-number.made.keys c.note_body.new.made.keys c.loop-number.invariant c.in_ok-note_body.ensures
