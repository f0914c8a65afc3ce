use Rattle.std.proofs.Common.{[]}
use Rattle.ref_counting.specs.Uses.{own_of}
use Rattle.ref_counting.proofs.Adding.{more_uses}
use Rattle.ref_counting.proofs.uses.uses.Goals as goal

pub loop-number-preserved : goal.loop-number-preserved
loop-number-preserved c = more_uses c.args.code.now (own_of c.args.right) c.loop-number.number [] c.loop-number.leads.keys c.note_entry.new.leads.keys c.loop-number.invariant c.in_ok-note_entry.ensures
