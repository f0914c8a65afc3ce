use Rattle.std.proofs.Common.{◌≡◌, ◌-◌, ◌∙◌, arith, ap, length}
use Rattle.std.specs.Vec.{vec_len}
use Rattle.work_queue.specs.Waiting.{with_put}
use Rattle.work_queue.proofs.InOrder.{in_order_inserted, length_inserted}
use Rattle.work_queue.proofs.Sharing.{put_in_run}
use Rattle.work_queue.proofs.kind_queue.KindQueue.put_aside.Goals as goal

pub invariant_of-self : goal.invariant_of-self
invariant_of-self c =
    let inside = c.self-then-len-le-SHORT.inside in
    let room : vec_len inside.spare - length inside.run ≡ c.args.self.now.room = ap (λ w. w.room) (c.self-then-len-le-SHORT.view_is ∙ c.clear_run.ensures) in
    record {
      kept = c.self-then-len-le-SHORT.invariant.kept;
      in_order = rw c.if-put.ensures.added (in_order_inserted c.args.entry inside.run c.self-then-len-le-SHORT.invariant.in_order);
      has_nodes = rw c.if-put.ensures.added (omega (arith, room, c.requires, length_inserted c.args.entry inside.run));
    }

pub returns-then-put : goal.returns-then-put
returns-then-put c =
    let inside = c.self-then-len-le-SHORT.inside in
    rw c.if-put.ensures.added (put_in_run c.args.entry inside.tree inside.run (vec_len inside.spare) ∙ ap (λ w. with_put c.args.entry w) (c.self-then-len-le-SHORT.view_is ∙ c.clear_run.ensures))
