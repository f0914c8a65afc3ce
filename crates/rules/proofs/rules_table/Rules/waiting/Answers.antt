use Rattle.std.proofs.Common.{arith}
use Rattle.rules.proofs.Counting.{length_present}
use Rattle.rules.proofs.rules_table.Rules.waiting.Goals as goal

pub returns : goal.returns
returns c = rw (← c.self.view_is) (omega (arith, c.len.ensures, length_present c.self.inside.waiters.slots))
