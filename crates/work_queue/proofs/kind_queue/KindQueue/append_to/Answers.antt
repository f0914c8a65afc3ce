use Rattle.std.proofs.Common.{◌∙◌, ap, ◌++◌, map}
use Rattle.std.proofs.lemmas.Result.{on_ok_weaker}
use Rattle.work_queue.specs.Entries.{listed}
use Rattle.work_queue.proofs.Sharing.{listed_both}
use Rattle.work_queue.proofs.kind_queue.KindQueue.append_to.Goals as goal

pub returns : goal.returns
returns c =
    let added = c.in_ok-append_to.ensures in
    rw (← c.self.view_is) (on_ok_weaker c.append_to-2.result (λ e. listed_both c.args.kind c.self.inside.tree c.self.inside.run c.args.list.now.items c.append_to-2.new.list.items (e ∙ ap (λ v. v ++ map (listed c.args.kind) c.self.inside.run) added)) c.append_to-2.ensures)
