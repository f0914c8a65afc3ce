use Rattle.ref_counting.proofs.Noting.{more_openings}
use Rattle.ref_counting.proofs.openings.openings.Goals as goal

pub loop-number-preserved : goal.loop-number-preserved
loop-number-preserved c = more_openings c.args.code.now c.loop-number.number c.loop-number.openings c.note_entry.new.openings c.loop-number.invariant c.in_ok-note_entry.ensures
