use Rattle.std.proofs.Common.{arith, ◌<◌, ◌⊎◌, inl, inr, ◌∙◌, refl}
use Rattle.rules.specs.Places.{address}
use Rattle.rules.specs.Slots.{after_slot, IsSettled}
use Rattle.rules.proofs.Settling.{settled_step, shrinks_none, shrinks_step}
use Rattle.rules.proofs.Learning.{after_twice, learnt_step}
use Rattle.rules.proofs.Noting.{noted_shrinks, needs_after}
use Rattle.rules.proofs.Walking.{IsBelow, walk_step, walk_last}
use Rattle.rules.proofs.visit.visit_noted.Goals as goal

pub tidy-holder-requires-in-loop-next-clause-noted : goal.tidy-holder-requires-in-loop-next-clause-noted
tidy-holder-requires-in-loop-next-clause-noted c =
    let slots = c.loop-next.waiters.slots in
    let at = c.note-note.result.slot in
    noted_shrinks (after_slot c.args.input.now) (needs_after c.args.input.now) c.loop-next.places slots c.visit.new.waiters.slots (rw c.visit.ensures.slots (shrinks_step (after_slot c.args.input.now) (after_twice c.args.input.now) refl slots slots at (shrinks_none (after_slot c.args.input.now) (after_twice c.args.input.now) refl slots))) c.loop-next.invariant.6

pub loop-next-preserved : goal.loop-next-preserved
loop-next-preserved c =
    let slots = c.loop-next.waiters.slots in
    let here = c.loop-next.invariant in
    let next = c.loop-next.next in
    let old = c.loop-next.places in
    let new = c.tidy-holder-in-loop-next.new.self in
    let x = c.note-note.result in
    let at = x.slot in
    let positive : 0 < next = omega (arith, c.loop-next-test.true) in
    let same = c.note-note.ensures.same in
    let link = c.note-note.ensures.link in
    let all = c.tidy-holder-in-loop-next.ensures.all in (
      rw (c.visit.ensures.slots, c.visit.ensures.told) (learnt_step c.args.input.now c.args.waiters.now.slots slots at _ _ here.0),
      λ k h. elim (here.1 k h) as (λ _. IsSettled (after_slot c.args.input.now) c.visit.new.waiters.slots k ⊎ IsBelow x.earlier new.notes (address c.args.input.now) k) [
        | inl settled ↦ inl (rw c.visit.ensures.slots (settled_step (after_slot c.args.input.now) (after_twice c.args.input.now) refl slots at k (inr settled)))
        | inr b ↦ elim (walk_step old new (address c.args.input.now) next k x same positive (here.11 positive) link all b) as (λ _. IsSettled (after_slot c.args.input.now) c.visit.new.waiters.slots k ⊎ IsBelow x.earlier new.notes (address c.args.input.now) k) [
          | inl met ↦ inl (rw c.visit.ensures.slots (settled_step (after_slot c.args.input.now) (after_twice c.args.input.now) refl slots at k (inl met.1)))
          | inr rest ↦ inr rest
        ]
      ],
      rw c.visit.ensures.slots (shrinks_step (after_slot c.args.input.now) (after_twice c.args.input.now) refl c.args.waiters.now.slots slots at here.2),
      c.visit.ensures.capacity ∙ here.3,
      c.visit.ensures.balance ∙ here.4,
      c.visit.ensures.out_capacity ∙ here.5,
      c.tidy-holder-in-loop-next.ensures.noted,
      all.strays ∙ here.7,
      all.place ∙ here.8,
      omega (arith, link.within, here.9, all.size),
      c.tidy-holder-in-loop-next.ensures.holder,
      walk_last old new (address c.args.input.now) next x same (here.11 positive) link all,
    )
