use Rattle.std.proofs.Common.{true, false, refl, sym}
use Rattle.std.proofs.lemmas.Bool.{not-false, not-true}
use Rattle.work_queue.proofs.InOrder.{erased_absent}
use Rattle.work_queue.proofs.Rising.{entry_read, holds_at, rested, rising_set, waits_read}
use Rattle.work_queue.proofs.slot.rest.Goals as goal

pub returns-in_default-clause-rested : goal.returns-in_default-clause-rested
returns-in_default-clause-rested c = sym (erased_absent _ _ c.in_default.ensures)

pub returns-then-not-slot-clause-found : goal.returns-then-not-slot-clause-found
returns-then-not-slot-clause-found c =
    let at = c.in-Some.ensures in
    sym (holds_at _ _ _ false c.requires at (waits_read _ _ _ false at.0 c.index-slot.ensures (not-true _ c.if-not-slot.true)))

pub returns-then-not-slot-clause-rested : goal.returns-then-not-slot-clause-rested
returns-then-not-slot-clause-rested c =
    let at = c.in-Some.ensures in
    sym (erased_absent _ _ (holds_at _ _ _ false c.requires at (waits_read _ _ _ false at.0 c.index-slot.ensures (not-true _ c.if-not-slot.true))))

pub returns-clause-rising : goal.returns-clause-rising
returns-clause-rising c =
    let at = c.in-Some.ensures in
    rising_set c.args.entry.now _ _ _ c.requires at (entry_read c.args.entry.now _ _ _ at c.index_mut.ensures.value)

pub returns-clause-found : goal.returns-clause-found
returns-clause-found c =
    let at = c.in-Some.ensures in
    sym (holds_at _ _ _ true c.requires at (waits_read _ _ _ true at.0 c.index-slot.ensures (not-false _ c.if-not-slot.false)))

pub returns-clause-rested : goal.returns-clause-rested
returns-clause-rested c =
    let at = c.in-Some.ensures in
    rested c.args.entry.now _ _ _ c.requires at (waits_read _ _ _ true at.0 c.index-slot.ensures (not-false _ c.if-not-slot.false)) refl
