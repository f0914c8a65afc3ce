use Rattle.std.proofs.Common.{rules, ◌≡◌, true}
use Rattle.rules.proofs.Counting.{present_insert}
use Rattle.rules.proofs.Noting.{noted_insert}
use Rattle.rules.proofs.rules_table.settle.Goals as goal

pub returns-then-not-keep_slot-clause-added : goal.returns-then-not-keep_slot-clause-added
returns-then-not-keep_slot-clause-added c =
    let put = c.insert_reserved-slot.ensures in
    present_insert c.args.waiters.now.slots c.insert_reserved-slot.new.self.slots c.insert_reserved-slot.result c.args.waiter put.was_vacant put.updates.changed put.updates.others

pub returns-else-not-keep_slot-clause-added : goal.returns-else-not-keep_slot-clause-added
returns-else-not-keep_slot-clause-added c =
    let put = c.insert_reserved-slot.ensures in
    present_insert c.args.waiters.now.slots c.insert_reserved-slot.new.self.slots c.insert_reserved-slot.result c.args.waiter put.was_vacant put.updates.changed put.updates.others

pub returns-else-not-keep_slot-clause-noted : goal.returns-else-not-keep_slot-clause-noted
returns-else-not-keep_slot-clause-noted c =
    let put = c.insert_reserved-slot.ensures in
    let step = c.keep_slot.ensures in
    let kept : c.keep_slot.result ≡ true = search rules in
    noted_insert c.args.places.now c.keep_slot.new.self c.args.waiters.now.slots c.insert_reserved-slot.new.self.slots c.insert_reserved-slot.result step.grows c.requires.noted put.updates.others (step.found kept)
