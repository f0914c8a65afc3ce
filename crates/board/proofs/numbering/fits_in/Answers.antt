use Rattle.std.proofs.Common.{arith}
use Rattle.board.proofs.Counting.{fits_there}
use Rattle.board.proofs.numbering.fits_in.Goals as goal

pub returns-in-Some-checked_add : goal.returns-in-Some-checked_add
returns-in-Some-checked_add c = λ y. fits_there c.args.instances.now c.args.at c.args.count c.in-Some.found.now c.in-Some.ensures (omega (arith, c.in-Some-checked_add.ensures))
