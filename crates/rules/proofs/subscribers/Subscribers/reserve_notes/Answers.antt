use Rattle.std.proofs.Common.{sym, subst}
use Rattle.rules.specs.Places.{IsNoted}
use Rattle.rules.proofs.subscribers.Subscribers.reserve_notes.Goals as goal

pub returns-then-capacity-wanted-clause-noted : goal.returns-then-capacity-wanted-clause-noted
returns-then-capacity-wanted-clause-noted c = subst (λ p. IsNoted p c.args.waiters.now.slots) (sym c.count.ensures) c.requires.noted

pub widen-requires-clause-noted : goal.widen-requires-clause-noted
widen-requires-clause-noted c = subst (λ p. IsNoted p c.args.waiters.now.slots) (sym c.count.ensures) c.requires.noted
