use Rattle.std.proofs.Common.{arith, ◌<◌, length}
use Rattle.std.proofs.lemmas.Grind.{common_steps}
use Rattle.code_listing.specs.Labels.{maker_of}
use Rattle.code_listing.specs.Order.{entries_made, maker_among}
use Rattle.code_listing.proofs.Ordering.{entries_step}
use Rattle.code_listing.proofs.producers.Producers.add_entries.Goals as goal

pub loop-k-preserved : goal.loop-k-preserved
loop-k-preserved c = λ n.
    let within : c.loop-k.k < length c.args.entries.now = grind (arith, common_steps) in
    entries_step c.args.code.now c.args.entries.now c.loop-k.k _ n (maker_of c.loop-k.self n) (maker_of c.add_entry_at.new.self n) (maker_among (maker_of c.args.self.now n) (entries_made c.args.code.now 0 c.args.entries.now) n)
    within (c.loop-k.invariant n) (c.in_ok-add_entry_at.ensures n)
