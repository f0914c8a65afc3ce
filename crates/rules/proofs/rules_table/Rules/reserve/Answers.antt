use Rattle.std.proofs.Common.{sym, ap, subst}
use Rattle.rules.specs.Places.{IsNoted}
use Rattle.rules.proofs.Noting.{kept_more}
use Rattle.rules.proofs.rules_table.Rules.reserve.Goals as goal

pub invariant_of-self : goal.invariant_of-self
invariant_of-self c =
    kept_more c.self.inside.waiters c.reserve.new.self c.self.inside.slots c.self.inside.places c.reserve.ensures.rest_kept c.reserve.ensures.capacity c.self.invariant

pub fit-requires-clause-noted : goal.fit-requires-clause-noted
fit-requires-clause-noted c =
    subst (IsNoted c.self.inside.places) (sym (ap (λ s. s.slots) c.reserve.ensures.rest_kept)) c.self.invariant.noted
