use Rattle.ref_counting.proofs.Noting.{more_homes}
use Rattle.ref_counting.proofs.openings.homes.Goals as goal

pub loop-number-preserved : goal.loop-number-preserved
loop-number-preserved c = more_homes c.args.code.now c.loop-number.number c.loop-number.homes c.note_entries.new.homes c.loop-number.invariant c.in_ok-note_entries.ensures
