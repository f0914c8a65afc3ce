use Rattle.std.proofs.Common.{rules, ◌∙◌, List, length, refl, sym, subst}
use Rattle.smallvec.specs.SmallVec.{SmallVec}
use Rattle.rules.specs.declared.input.Input.{Input}
use Rattle.board_instances.specs.View.{frames_view, job_view, rows_view}
use Rattle.board_items.specs.Progress.{jobs_behind}
use Rattle.board_items.specs.Room.{AreSpare}
use Rattle.board_changes.specs.Room.{OpensWell}
use Rattle.board_changes.specs.declared.data_state.Change.{Change}
use Rattle.board.proofs.Assembled as A
use Rattle.board.proofs.Ends.{can, ended, err_from, no_ok, ok_from, ok_take, one_less, pack, same_spare, short, spare}
use Rattle.board.proofs.Own.{some_run}
use Rattle.board.specs.Counted.{CanChange}
use Rattle.board.proofs.state.BoardState.apply_effect.Goals as goal

pub returns-in_err-spare-clause-same : goal.returns-in_err-spare-clause-same
returns-in_err-spare-clause-same c =
    err_from c.from_residual-in_err-spare.result (λ not es w I s free runs xs sees e good.
    let able = subst (λ (x : Change). CanChange c.args.program.now (frames_view c.args.self.now.data_state.instances.slots) (length c.args.self.now.items.rows.items) (job_view c.args.job) x) c.change_of-change.ensures.change (c.can_change.ensures (search rules)) in
    let opens = A.opens c.args.program.now I es c.args.self.now c.make_room.new.self c.in_ok-make_room.ensures.same s free w c.args.number (job_view c.args.job) runs xs sees c.args.effect e good c.in_ok-make_room.ensures.rows c.in_ok-make_room.ensures.frames c.in_ok-make_room.ensures.cells able in
    no_ok (c.in_err-spare.ensures.succeeds c.in_ok-make_room.ensures.items.lines (c.in_ok-make_room.ensures.data_state (subst (λ (x : Change). OpensWell c.args.program.now (job_view c.args.job) x) (sym c.change_of-change.ensures.change) opens))))

pub returns-clause-passed : goal.returns-clause-passed
returns-clause-passed c =
    ok_from c.finish.result (λ ok. record {
      stand = λ es w I s free runs xs sees e good.
          let m = pack c.args.program.now c.args.number (job_view c.args.job) c.args.effect c.args.self.now c.make_room.new.self c.apply.new.self c.len-first.result c.change_of-change.result.0 c.change_of-change.result.1 c.change_of-change.ensures.change c.change_of-change.ensures.line c.in_ok-make_room.ensures.same c.in_ok-make_room.ensures.items c.in_ok-make_room.ensures.takes c.in_ok-make_room.ensures.rows c.in_ok-make_room.ensures.frames c.in_ok-make_room.ensures.cells (c.can_change.ensures (search rules)) (c.in_ok-spare.ensures.made (c.in_ok-make_room.ensures.known ∙ c.clear.ensures.items)) (search rules) in
          let fine = can c.args.program.now I es c.args.self.now c.make_room.new.self c.apply.new.self s free w c.args.number (job_view c.args.job) runs xs sees c.args.effect e good c.len-first.result m in
          let brief = short c.args.program.now I es c.args.self.now c.make_room.new.self c.apply.new.self s free w c.args.number (job_view c.args.job) runs xs sees c.args.effect e good c.len-first.result m in
          ended c.args.program.now I es c.args.self.now c.make_room.new.self c.apply.new.self s free w c.args.number (job_view c.args.job) runs xs sees c.args.effect e good c.len-first.result m (record { data_state = c.apply.new.self.data_state; items = c.finish.new.self; lines = c.apply.new.self.lines; fault = c.apply.new.self.fault; alloc = c.apply.new.self.alloc }) refl refl refl (ok_take c.finish.result ok (c.finish.ensures.settled fine brief)) (ok_take c.finish.result ok (c.finish.ensures.roomy fine brief)) (ok_take c.finish.result ok c.finish.ensures.running) (ok_take c.finish.result ok c.finish.ensures.rising);
      running = λ es w I s runs. one_less c.finish.new.self.running c.apply.new.self.items.running c.make_room.new.self.items.running c.args.self.now.items.running (ok_take c.finish.result ok c.finish.ensures.running) (c.in_ok-spare.ensures.made (c.in_ok-make_room.ensures.known ∙ c.clear.ensures.items)).running c.in_ok-make_room.ensures.same.running (some_run c.args.program.now I es c.args.self.now s w c.args.number (job_view c.args.job) runs);
    })

pub returns-clause-same : goal.returns-clause-same
returns-clause-same c =
    err_from c.finish.result (λ not es w I s free runs xs sees e good.
    let m = pack c.args.program.now c.args.number (job_view c.args.job) c.args.effect c.args.self.now c.make_room.new.self c.apply.new.self c.len-first.result c.change_of-change.result.0 c.change_of-change.result.1 c.change_of-change.ensures.change c.change_of-change.ensures.line c.in_ok-make_room.ensures.same c.in_ok-make_room.ensures.items c.in_ok-make_room.ensures.takes c.in_ok-make_room.ensures.rows c.in_ok-make_room.ensures.frames c.in_ok-make_room.ensures.cells (c.can_change.ensures (search rules)) (c.in_ok-spare.ensures.made (c.in_ok-make_room.ensures.known ∙ c.clear.ensures.items)) (search rules) in
    absurd (not (c.finish.ensures.succeeds (can c.args.program.now I es c.args.self.now c.make_room.new.self c.apply.new.self s free w c.args.number (job_view c.args.job) runs xs sees c.args.effect e good c.len-first.result m) (short c.args.program.now I es c.args.self.now c.make_room.new.self c.apply.new.self s free w c.args.number (job_view c.args.job) runs xs sees c.args.effect e good c.len-first.result m)
    (subst (λ (l : List (SmallVec Input)). AreSpare c.args.program.now (jobs_behind c.len-first.result (rows_view c.apply.new.self.items.rows.items)) l) (sym (c.in_ok-spare.ensures.spare ∙ same_spare c.change_of-change.ensures.change)) (spare c.args.program.now I es c.args.self.now c.make_room.new.self c.apply.new.self s free w c.args.number (job_view c.args.job) runs xs sees c.args.effect e good c.len-first.result m)))))
