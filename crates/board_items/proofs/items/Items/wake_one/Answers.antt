use Rattle.std.proofs.Common.{refl, map}
use Rattle.std.proofs.lemmas.Result.{on_ok_weaker}
use Rattle.board_data.specs.View.{cells_view, want_view}
use Rattle.board_instances.specs.View.{frames_view, job_view}
use Rattle.board_items.specs.Ended.{misses}
use Rattle.board_items.proofs.Placed.{job_found, settles_by}
use Rattle.board_items.proofs.items.Items.wake_one.Goals as goal

pub returns-clause-settles : goal.returns-clause-settles
returns-clause-settles c = on_ok_weaker c.place_with.result
    (λ s. λ r h few seen short. settles_by c.args.board_view.program.now (frames_view c.args.board_view.instances.now.slots) (misses c.args.board_view.program.now (frames_view c.args.board_view.instances.now.slots) (cells_view c.args.board_view.store.now.cells)) c.args.number c.args.self.now c.place_with.new.self (job_view c.job-job.result) r.job _ _ (map want_view c.in_ok-inputs.inputs.items)
    (job_found c.args.self.now.rows.items c.as_slice.result.now c.args.number c.in-Some.item c.job-job.result r c.job-job.ensures c.in-Some.ensures c.as_slice.ensures.value h) seen (λ x. c.in_ok-inputs.ensures.listed few x) c.order_of-order.ensures.kind c.order_of-order.ensures.priority s)
    (c.place_with.ensures.settles (map want_view c.in_ok-inputs.inputs.items) refl)
