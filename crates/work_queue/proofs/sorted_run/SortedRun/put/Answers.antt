use Rattle.std.proofs.Common.{arith, ap, length}
use Rattle.work_queue.specs.Slots.{waiting}
use Rattle.work_queue.proofs.InOrder.{length_inserted}
use Rattle.work_queue.proofs.Rising.{waiting_shorter}
use Rattle.work_queue.proofs.sorted_run.SortedRun.put.Goals as goal

pub prove-unreachable-requires : goal.prove-unreachable-requires
prove-unreachable-requires c =
    let same = ap length c.tidy.ensures.same in
    let added = ap length c.if-added.ensures.added in
    let more = length_inserted c.args.entry.now (waiting c.tidy.new.slots.items) in
    omega (arith, c.if-prove.true, c.len-places.ensures, c.put-added.new.slots.ok.0, waiting_shorter c.put-added.new.slots.items, c.self.invariant.1, same, added, more)

pub invariant_of-self : goal.invariant_of-self
invariant_of-self c =
    let same = ap length c.tidy.ensures.same in
    let added = ap length c.if-added.ensures.added in
    let more = length_inserted c.args.entry.now (waiting c.tidy.new.slots.items) in
    (c.if-added.ensures.run, omega (arith, c.self.invariant.1, same, added, more))
