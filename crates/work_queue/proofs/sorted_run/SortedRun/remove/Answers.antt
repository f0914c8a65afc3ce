use Rattle.std.proofs.Common.{arith, ap, sym, length}
use Rattle.work_queue.specs.Slots.{waiting}
use Rattle.work_queue.proofs.InOrder.{length_erased}
use Rattle.work_queue.proofs.sorted_run.SortedRun.remove.Goals as goal

pub invariant_of-self-2 : goal.invariant_of-self-2
invariant_of-self-2 c =
    let gone = length_erased c.args.entry.now (waiting c.self.inside.slots.items) (sym c.if-not-rest.ensures.found) in
    let rested = ap length c.if-not-rest.ensures.rested in
    let same = ap length c.trim.ensures.same in
    (c.trim.ensures.run, omega (arith, c.self.invariant.1, gone, rested, same))
