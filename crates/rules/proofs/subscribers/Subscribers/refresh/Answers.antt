use Rattle.std.proofs.Common.{sym, subst}
use Rattle.rules.specs.Places.{IsNoted}
use Rattle.rules.proofs.subscribers.Subscribers.refresh.Goals as goal

pub returns-clause-noted : goal.returns-clause-noted
returns-clause-noted c = subst (λ p. IsNoted p c.args.waiters.now.slots) (sym c.count.ensures) c.make_place.ensures.noted
