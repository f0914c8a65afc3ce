use Rattle.std.proofs.Common.{◌⊎◌, inl, inr, refl, Contains}
use Rattle.rules.specs.Slots.{after_slot, IsSettled}
use Rattle.rules.proofs.Noting.{found, noted_shrinks, needs_after}
use Rattle.rules.proofs.Learning.{after_twice, learnt_on}
use Rattle.rules.proofs.Settling.{shrinks_on}
use Rattle.rules.proofs.rules_table.wake.Goals as goal

pub returns-clause-learnt : goal.returns-clause-learnt
returns-clause-learnt c =
    learnt_on c.args.input.now c.args.waiters.now.slots c.visit_noted-passed.new.waiters.slots c.visit_listed.new.waiters.slots _ _ _ c.visit_noted-passed.ensures.learnt c.visit_listed.ensures.learnt

pub returns-clause-settled : goal.returns-clause-settled
returns-clause-settled c = λ k.
    let i = c.args.input.now in
    c.visit_listed.ensures.settled k (elim (found i c.args.places.now c.args.waiters.now.slots k c.requires.noted c.requires.busy) as (λ _. Contains c.strays.result.now k ⊎ IsSettled (after_slot i) c.visit_noted-passed.new.waiters.slots k) [
      | inl stray ↦ inl (rw (c.strays.ensures, c.visit_noted-passed.ensures.strays) stray)
      | inr rest ↦ inr (c.visit_noted-passed.ensures.settled k rest)
    ])

pub returns-clause-shrinks : goal.returns-clause-shrinks
returns-clause-shrinks c =
    shrinks_on (after_slot c.args.input.now) (after_twice c.args.input.now) refl c.args.waiters.now.slots c.visit_noted-passed.new.waiters.slots c.visit_listed.new.waiters.slots c.visit_noted-passed.ensures.shrinks c.visit_listed.ensures.shrinks

pub hear-requires-clause-noted : goal.hear-requires-clause-noted
hear-requires-clause-noted c =
    let i = c.args.input.now in
    noted_shrinks (after_slot i) (needs_after i) c.visit_noted-passed.new.places c.visit_noted-passed.new.waiters.slots c.visit_listed.new.waiters.slots c.visit_listed.ensures.shrinks c.visit_noted-passed.ensures.noted
