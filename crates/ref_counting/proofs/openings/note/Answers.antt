use Rattle.ref_counting.proofs.Noting.{noted_one}
use Rattle.ref_counting.proofs.openings.note.Goals as goal

pub returns : goal.returns
returns c = noted_one c.args.entry c.args.way c.args.body c.args.openings.now c.put.new.self c.in_ok-put.ensures
