use Rattle.std.proofs.Common.{sym, subst}
use Rattle.rules.specs.Places.{IsNoted}
use Rattle.rules.proofs.subscribers.Subscribers.hear.Goals as goal

pub returns-else-self-len-clause-noted : goal.returns-else-self-len-clause-noted
returns-else-self-len-clause-noted c = subst (λ p. IsNoted p c.args.waiters.now.slots) (sym c.count_passed.ensures) c.requires.noted
