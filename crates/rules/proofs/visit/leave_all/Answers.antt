use Rattle.std.proofs.Common.{rules, arith, ◌≡◌, ◌⊎◌, inl, inr, None, ◌∙◌, slice_index_or, refl}
use Rattle.std.proofs.lemmas.Bool.{cases_eq}
use Rattle.std.proofs.lemmas.List.{length-set}
use Rattle.rules.specs.Waiting.{without_item}
use Rattle.rules.specs.Slots.{unless_item, IsSettled}
use Rattle.rules.proofs.Settling.{settled_step, settled_past, shrinks_none, shrinks_step, kept_step}
use Rattle.rules.proofs.Learning.{unless_twice, without_cons}
use Rattle.rules.proofs.visit.leave_all.Goals as goal

pub loop-slot-init : goal.loop-slot-init
loop-slot-init c = (refl, λ k h. absurd (omega (arith, h)), shrinks_none (unless_item c.args.item) (unless_twice c.args.item) refl _, search rules, search rules, omega arith)

pub loop-slot-preserved : goal.loop-slot-preserved
loop-slot-preserved c =
    let x = c.args.item in
    let slots = c.loop-slot.waiters.slots in
    let at = c.loop-slot.slot in
    let here = c.loop-slot.invariant in (
      rw c.leave.ensures.slots (kept_step (unless_item x) (unless_twice x) refl (without_item x) refl (without_cons x) slots at ∙ here.0),
      λ k h. rw c.leave.ensures.slots (settled_step (unless_item x) (unless_twice x) refl slots at k (elim (cases_eq k at) as (λ _. (k ≡ at) ⊎ IsSettled (unless_item x) slots k) [
        | inl e ↦ inl e
        | inr differs ↦ inr (here.1 k (omega (arith, h, differs)))
      ])),
      rw c.leave.ensures.slots (shrinks_step (unless_item x) (unless_twice x) refl c.args.waiters.now.slots slots at here.2),
      c.leave.ensures.capacity ∙ here.3,
      rw c.leave.ensures.slots (length-set slots at ((unless_item x) (slice_index_or slots at None)) ∙ here.4),
      omega (arith, c.leave.ensures.fewer, here.5),
    )

pub returns-clause-others : goal.returns-clause-others
returns-clause-others c = c.loop-slot.invariant.0

pub returns-clause-settled : goal.returns-clause-settled
returns-clause-settled c = λ k.
    settled_past (unless_item c.args.item) (unless_twice c.args.item) refl c.loop-slot.waiters.slots c.loop-slot.slot k (c.loop-slot.invariant.1 k) (omega (arith, c.loop-slot-test.false, c.capacity-slot-end.ensures.slots, c.loop-slot.invariant.4))

pub returns-clause-shrinks : goal.returns-clause-shrinks
returns-clause-shrinks c = c.loop-slot.invariant.2

pub returns-clause-capacity : goal.returns-clause-capacity
returns-clause-capacity c = c.loop-slot.invariant.3

pub returns-clause-fewer : goal.returns-clause-fewer
returns-clause-fewer c = c.loop-slot.invariant.5
