use Rattle.std.proofs.Common.{◌-◌, ◌<◌, arith, length}
use Rattle.std.specs.Vec.{vec_len}
use Rattle.work_queue.proofs.InOrder.{in_order_inserted, length_inserted}
use Rattle.work_queue.proofs.Sharing.{put_in_tree}
use Rattle.work_queue.proofs.kind_queue.KindQueue.put_in_tree.Goals as goal

pub invariant_of-self : goal.invariant_of-self
invariant_of-self c =
    let tree = c.self.inside.tree in
    let kept = c.self.invariant.kept in
    let room : 0 < vec_len c.self.inside.spare - length c.self.inside.run = rw (← c.self.view_is) at c.requires in
    record {
      kept = record {
        in_order = rw c.put.ensures (in_order_inserted c.args.entry tree kept.in_order);
        counted = rw c.put.ensures (omega (arith, kept.counted, length_inserted c.args.entry tree));
        has_place = omega (arith, kept.has_place, c.take_last-node.ensures.len, c.take_last-node.ensures.capacity);
      };
      in_order = c.self.invariant.in_order;
      has_nodes = omega (arith, room, c.take_last-node.ensures.len);
    }

pub returns : goal.returns
returns c =
    rw (← c.self.view_is, c.put.ensures) (put_in_tree c.args.entry c.self.inside.tree c.self.inside.run _ _ c.take_last-node.ensures.len)
