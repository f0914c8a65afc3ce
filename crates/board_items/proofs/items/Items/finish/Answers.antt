use Rattle.std.proofs.Common.{◌∙◌, arith}
use Rattle.board_data.specs.View.{cells_view}
use Rattle.board_instances.specs.View.{frames_view, job_view, rows_view}
use Rattle.board_items.specs.Progress.{jobs_behind}
use Rattle.board_items.specs.View.{queue_view, waiters_view}
use Rattle.board_items.proofs.Finish.{first_can, first_far, first_old, first_short, last_far, next_can, next_far, no_ok, spare_back}
use Rattle.board_items.proofs.Steps.{settled_moved}
use Rattle.board_items.proofs.items.Items.finish.Goals as goal

pub returns-in_err-wake-clause-succeeds : goal.returns-in_err-wake-clause-succeeds
returns-in_err-wake-clause-succeeds c = λ can short spare.
    let C = c.args.board_view.program.now in
    let fs = frames_view c.args.board_view.instances.now.slots in
    let cs = cells_view c.args.board_view.store.now.cells in
    let job = job_view c.args.job in
    let far = first_far C fs cs c.args.number job c.args.first c.args.self.now can c.close.new.self c.close.ensures.woken c.order_of-kind.result.0 c.order_of-kind.ensures.kind c.close.ensures.rows c.close.ensures.rules c.close.ensures.queue c.close.ensures.newly c.close.ensures.capacity c.close.ensures.apart in
    no_ok (c.in_err-wake.ensures.succeeds _ c.args.first c.args.number _ _ _ can.few (first_can C fs cs c.args.number job c.args.first c.args.self.now can c.close.new.self c.close.ensures.woken) (first_old C fs cs c.args.number job c.args.first c.args.self.now can c.close.new.self c.close.ensures.woken) far (first_short C fs cs c.args.number job c.args.first c.args.self.now can c.close.new.self c.close.ensures.woken short))

pub returns-in_err-place_new-clause-succeeds : goal.returns-in_err-place_new-clause-succeeds
returns-in_err-place_new-clause-succeeds c = λ can short spare.
    let C = c.args.board_view.program.now in
    let fs = frames_view c.args.board_view.instances.now.slots in
    let cs = cells_view c.args.board_view.store.now.cells in
    let job = job_view c.args.job in
    let far = first_far C fs cs c.args.number job c.args.first c.args.self.now can c.close.new.self c.close.ensures.woken c.order_of-kind.result.0 c.order_of-kind.ensures.kind c.close.ensures.rows c.close.ensures.rules c.close.ensures.queue c.close.ensures.newly c.close.ensures.capacity c.close.ensures.apart in
    let old = first_old C fs cs c.args.number job c.args.first c.args.self.now can c.close.new.self c.close.ensures.woken in
    let far1 = c.in_ok-wake.ensures.progress _ c.args.first c.args.number _ _ _ can.few (first_can C fs cs c.args.number job c.args.first c.args.self.now can c.close.new.self c.close.ensures.woken) old far (first_short C fs cs c.args.number job c.args.first c.args.self.now can c.close.new.self c.close.ensures.woken short) in
    let len = c.wake.ensures.len ∙ c.close.ensures.len in
    no_ok (c.in_err-place_new.ensures.succeeds _ c.args.number _ _ _ _ can.few (next_can C fs cs c.args.number job c.args.first c.args.self.now can c.close.new.self c.close.ensures.woken c.wake.new.self len) old (next_far C fs cs c.args.number job c.args.first c.args.self.now can c.close.new.self c.close.ensures.woken c.wake.new.self len far1) (spare_back C (jobs_behind c.args.first (rows_view c.args.self.now.rows.items)) c.args.spare.items c.reverse.new.self.items c.reverse.ensures.items spare))

pub returns-clause-settled : goal.returns-clause-settled
returns-clause-settled c = λ can short.
    let C = c.args.board_view.program.now in
    let fs = frames_view c.args.board_view.instances.now.slots in
    let cs = cells_view c.args.board_view.store.now.cells in
    let job = job_view c.args.job in
    let far = first_far C fs cs c.args.number job c.args.first c.args.self.now can c.close.new.self c.close.ensures.woken c.order_of-kind.result.0 c.order_of-kind.ensures.kind c.close.ensures.rows c.close.ensures.rules c.close.ensures.queue c.close.ensures.newly c.close.ensures.capacity c.close.ensures.apart in
    let old = first_old C fs cs c.args.number job c.args.first c.args.self.now can c.close.new.self c.close.ensures.woken in
    let far1 = c.in_ok-wake.ensures.progress _ c.args.first c.args.number _ _ _ can.few (first_can C fs cs c.args.number job c.args.first c.args.self.now can c.close.new.self c.close.ensures.woken) old far (first_short C fs cs c.args.number job c.args.first c.args.self.now can c.close.new.self c.close.ensures.woken short) in
    let len = c.wake.ensures.len ∙ c.close.ensures.len in
    let far2 = c.in_ok-place_new.ensures.progress _ c.args.number _ _ _ _ can.few (next_can C fs cs c.args.number job c.args.first c.args.self.now can c.close.new.self c.close.ensures.woken c.wake.new.self len) old (next_far C fs cs c.args.number job c.args.first c.args.self.now can c.close.new.self c.close.ensures.woken c.wake.new.self len far1) in
    let far3 = last_far C fs cs c.args.number job c.args.first c.args.self.now can c.close.new.self c.close.ensures.woken c.wake.new.self len c.place_new.new.self far2 in
    settled_moved C fs cs (rows_view c.args.self.now.rows.items) c.args.first c.args.number (waiters_view c.args.self.now.rules.waiting) (queue_view c.args.self.now.queue) _ _ _ _ _ far3.settled 0 c.sort_unstable.new.self.items c.sort_unstable.ensures.permutation

pub returns-clause-roomy : goal.returns-clause-roomy
returns-clause-roomy c = λ can short.
    let C = c.args.board_view.program.now in
    let fs = frames_view c.args.board_view.instances.now.slots in
    let cs = cells_view c.args.board_view.store.now.cells in
    let job = job_view c.args.job in
    let far = first_far C fs cs c.args.number job c.args.first c.args.self.now can c.close.new.self c.close.ensures.woken c.order_of-kind.result.0 c.order_of-kind.ensures.kind c.close.ensures.rows c.close.ensures.rules c.close.ensures.queue c.close.ensures.newly c.close.ensures.capacity c.close.ensures.apart in
    let old = first_old C fs cs c.args.number job c.args.first c.args.self.now can c.close.new.self c.close.ensures.woken in
    let far1 = c.in_ok-wake.ensures.progress _ c.args.first c.args.number _ _ _ can.few (first_can C fs cs c.args.number job c.args.first c.args.self.now can c.close.new.self c.close.ensures.woken) old far (first_short C fs cs c.args.number job c.args.first c.args.self.now can c.close.new.self c.close.ensures.woken short) in
    let len = c.wake.ensures.len ∙ c.close.ensures.len in
    let far2 = c.in_ok-place_new.ensures.progress _ c.args.number _ _ _ _ can.few (next_can C fs cs c.args.number job c.args.first c.args.self.now can c.close.new.self c.close.ensures.woken c.wake.new.self len) old (next_far C fs cs c.args.number job c.args.first c.args.self.now can c.close.new.self c.close.ensures.woken c.wake.new.self len far1) in
    let r = far2.room.roomy in
    let n = r.noted in
    let e = c.sort_unstable.ensures.capacity in
    record { controls_counted = r.controls_counted; leaves_counted = r.leaves_counted; controls_fit = r.controls_fit; leaves_fit = r.leaves_fit; noted = omega arith }

pub returns-clause-running : goal.returns-clause-running
returns-clause-running c = c.place_new.ensures.running ∙ c.wake.ensures.running ∙ c.close.ensures.running
