use Rattle.std.proofs.Common.{false, refl}
use Rattle.work_queue.proofs.Rising.{begins_set, entry_read, rising_set, waits_read, woken}
use Rattle.work_queue.proofs.slot.wake.Goals as goal

pub returns-clause-run : goal.returns-clause-run
returns-clause-run c =
    let at = c.in-Some.ensures in
    let is = entry_read c.args.entry.now _ _ _ at c.index_mut.ensures.value in
    record { rising = rising_set c.args.entry.now _ _ _ c.requires.rising at is; begins = begins_set _ _ _ refl c.requires.begins }

pub returns-clause-woken : goal.returns-clause-woken
returns-clause-woken c =
    let at = c.in-Some.ensures in
    let is = entry_read c.args.entry.now _ _ _ at c.index_mut.ensures.value in
    woken c.args.entry.now _ _ _ c.requires.rising at (waits_read _ _ _ false at.0 c.index-slot.ensures c.if-slot.false) is refl
