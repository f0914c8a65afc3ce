use Rattle.std.proofs.Common.{◌-◌, ◌<◌, ◌∙◌, arith, ap, length}
use Rattle.std.specs.Vec.{vec_len}
use Rattle.work_queue.specs.Waiting.{with_put}
use Rattle.work_queue.proofs.InOrder.{in_order_inserted, length_inserted}
use Rattle.work_queue.proofs.Sharing.{put_after_room, put_in_run}
use Rattle.work_queue.proofs.kind_queue.KindQueue.put.Goals as goal
use Rattle.work_queue.proofs.kind_queue.KindQueue.put.Goals.{then-room-eq0+in_ok-reserve, else-room-eq0}

pub invariant_of-self-else-not-put : goal.invariant_of-self-else-not-put
invariant_of-self-else-not-put c =
    let run = c.self-2.inside.run in
    let room : 0 < vec_len c.self-2.inside.spare - length run = elim c.if-room-eq0.branch [
      | then-room-eq0+in_ok-reserve w ↦ omega (arith, ap (λ v. v.room) (c.self-2.view_is ∙ w.self-is ∙ w.in_ok-reserve.ensures.ok))
      | else-room-eq0 w ↦ omega (arith, ap (λ v. v.room) (c.self-2.view_is ∙ w.self-is), c.room.ensures, w.if-room-eq0.false)
    ] in
    record {
      kept = c.self-2.invariant.kept;
      in_order = rw c.if-not-put.ensures.added (in_order_inserted c.args.entry run c.self-2.invariant.in_order);
      has_nodes = rw c.if-not-put.ensures.added (omega (arith, room, length_inserted c.args.entry run));
    }

pub returns-else-not-put-clause-ok : goal.returns-else-not-put-clause-ok
returns-else-not-put-clause-ok c =
    let put = put_in_run c.args.entry c.self-2.inside.tree c.self-2.inside.run (vec_len c.self-2.inside.spare) in
    rw c.if-not-put.ensures.added (put ∙ elim c.if-room-eq0.branch [
      | then-room-eq0+in_ok-reserve w ↦ ap (λ v. with_put c.args.entry v) (c.self-2.view_is ∙ w.self-is ∙ w.in_ok-reserve.ensures.ok) ∙ put_after_room c.args.entry c.args.self.now
      | else-room-eq0 w ↦ ap (λ v. with_put c.args.entry v) (c.self-2.view_is ∙ w.self-is)
    ])
