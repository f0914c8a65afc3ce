use Rattle.std.proofs.Common.{arith, ◌≡◌, ◌+◌, true, cond, is_some, ◌∙◌}
use Rattle.std.proofs.lemmas.List.Sums.{sum_by-take-le}
use Rattle.rules.proofs.Noting.{count_next, slot_more, all_noted}
use Rattle.rules.proofs.subscribers.Subscribers.renew.Goals as goal

pub loop-slot-preserved : goal.loop-slot-preserved
loop-slot-preserved c =
    let slots = c.args.waiters.now.slots in
    let at = c.loop-slot.slot in
    let here = c.loop-slot.invariant in
    let step = c.keep_slot.ensures in
    let more = count_next slots at in
    let most = sum_by-take-le (λ p. cond (is_some p) 1 0) slots (at + 1) in
    let kept : c.keep_slot.result ≡ true = step.kept (omega (arith, here.1, here.2, more, most, c.requires)) in (
      slot_more at slots c.loop-slot.self c.keep_slot.new.self step.grows (step.found kept) here.0,
      step.grows.place ∙ here.1,
      omega (arith, step.more, here.2, more),
    )

pub returns-clause-noted : goal.returns-clause-noted
returns-clause-noted c =
    let slots = c.args.waiters.now.slots in
    all_noted c.loop-slot.self slots c.loop-slot.slot (omega (arith, c.loop-slot-test.false, c.capacity-slots.ensures.slots)) c.loop-slot.invariant.0
