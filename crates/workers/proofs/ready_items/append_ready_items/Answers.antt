use Rattle.std.proofs.Common.{arith}
use Rattle.std.proofs.lemmas.Option.{slice_get_within}
use Rattle.workers.proofs.Listing.{one_listed}
use Rattle.workers.proofs.ready_items.append_ready_items.Goals as goal

pub loop-place-preserved : goal.loop-place-preserved
loop-place-preserved c =
    let b = c.args.board.now in
    let l = c.loop-place.invariant in
    let told = c.ready_item_at-kind.ensures in
    let fresh = c.ready_item_at-kind.result.1 in
    let within = slice_get_within b.newly c.loop-place.place fresh.number told.number in
    record {
      listed = one_listed b c.args.list.now.items c.loop-place.list.items c.push_reserved.new.self.items c.loop-place.place fresh within l.listed c.push_reserved.ensures.items told.number told.offer;
      len = omega (arith, c.push_reserved.ensures.len, l.len);
      room = omega (arith, c.push_reserved.ensures.capacity, l.room);
    }
