use Rattle.std.proofs.Common.{arith}
use Rattle.code_listing.proofs.Ordering.{nth_put}
use Rattle.code_listing.proofs.bodies.put_place.Goals as goal

pub returns-then-body-len-clause-each : goal.returns-then-body-len-clause-each
returns-then-body-len-clause-each c = λ b below. nth_put 0 c.args.place c.args.places.now.items c.args.body b (omega arith)
