use Rattle.std.proofs.Common.{◌∙◌, ap, sym}
use Rattle.std.specs.Vec.{vec_len}
use Rattle.work_queue.proofs.Sharing.{moved_to_tree, shared}
use Rattle.work_queue.proofs.kind_queue.KindQueue.clear_run.Goals as goal
use Rattle.work_queue.proofs.kind_queue.KindQueue.clear_run.Goals.{in-Some, in_default}

pub loop-cleared-preserved : goal.loop-cleared-preserved
loop-cleared-preserved c =
    let inside = c.self-in-loop-cleared.inside in
    let before = c.self-in-loop-cleared.view_is ∙ c.loop-cleared.invariant in
    elim c.match-take.branch [
      | in-Some w ↦ w.self-is ∙ w.put_in_tree.ensures ∙ moved_to_tree w.in-Some.entry inside.tree inside.run c.take.new.self (vec_len inside.spare) c.self-in-loop-cleared.invariant.in_order w.in-Some.ensures ∙ before
      | in_default w ↦ w.self-is ∙ ap (λ v. shared inside.tree v (vec_len inside.spare)) (w.in_default.ensures.1 ∙ sym w.in_default.ensures.0) ∙ before
    ]
