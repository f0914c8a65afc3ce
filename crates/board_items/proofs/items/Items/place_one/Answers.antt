use Rattle.std.proofs.Common.{◌∙◌, ap, arith, length, map, reverse}
use Rattle.std.proofs.lemmas.Result.{on_ok_weaker}
use Rattle.std.specs.List.{flat_map}
use Rattle.board_data.specs.View.{cells_view}
use Rattle.board_data.specs.Wanted.{wanted_missed}
use Rattle.board_instances.specs.Names.{led_slot}
use Rattle.board_instances.specs.View.{frames_view, job_view, row_view}
use Rattle.board_instances.specs.declared.item.ItemRecord.{ItemRecord}
use Rattle.board_items.specs.Ended.{first_needs, misses_first}
use Rattle.board_items.proofs.Jobs.{lists_behind, spare_for}
use Rattle.board_items.proofs.Placed.{job_placed, settles_by}
use Rattle.board_items.proofs.items.Items.place_one.Goals as goal

pub returns-then-needs-gt2-clause-settles : goal.returns-then-needs-gt2-clause-settles
returns-then-needs-gt2-clause-settles c = on_ok_weaker c.place_long.result
    (λ s. λ r h few seen. settles_by c.args.board_view.program.now (frames_view c.args.board_view.instances.now.slots) (misses_first c.args.board_view.program.now (frames_view c.args.board_view.instances.now.slots) (cells_view c.args.board_view.store.now.cells)) _ c.args.self.now c.place_long.new.self (job_view c.job-job.result) r.job _ _ (flat_map (wanted_missed c.args.board_view.program.now (cells_view c.args.board_view.store.now.cells) (led_slot (frames_view c.args.board_view.instances.now.slots) c.inspect-at.result.1)) c.inspect-at.result.2.now)
    (job_placed c.args.self.now.rows.items c.args.place c.index.result.now c.job-job.result r (c.job-job.ensures ∙ ap (λ (i : ItemRecord). (row_view i).job) c.item.ensures) (omega (arith, c.args.self.now.rows.ok.0)) c.index.ensures h) seen (λ x. c.inspect-at.ensures.listed few x) c.inspect-at.ensures.kind c.inspect-at.ensures.priority s)
    c.place_long.ensures.settles

pub returns-then-needs-gt2-clause-rest : goal.returns-then-needs-gt2-clause-rest
returns-then-needs-gt2-clause-rest c = λ r jobs h s. c.place_long.ensures.rest (map (first_needs c.args.board_view.program.now) jobs) (spare_for c.args.board_view.program.now (job_view c.job-job.result) r.job jobs (reverse c.args.spare.now.items) (length c.inspect-at.result.2.now) (job_placed c.args.self.now.rows.items c.args.place c.index.result.now c.job-job.result r (c.job-job.ensures ∙ ap (λ (i : ItemRecord). (row_view i).job) c.item.ensures) (omega (arith, c.args.self.now.rows.ok.0)) c.index.ensures h) c.inspect-at.ensures.count s)

pub returns-then-needs-gt2-clause-succeeds : goal.returns-then-needs-gt2-clause-succeeds
returns-then-needs-gt2-clause-succeeds c = λ r jobs h s room. c.place_long.ensures.succeeds (map (first_needs c.args.board_view.program.now) jobs) (spare_for c.args.board_view.program.now (job_view c.job-job.result) r.job jobs (reverse c.args.spare.now.items) (length c.inspect-at.result.2.now) (job_placed c.args.self.now.rows.items c.args.place c.index.result.now c.job-job.result r (c.job-job.ensures ∙ ap (λ (i : ItemRecord). (row_view i).job) c.item.ensures) (omega (arith, c.args.self.now.rows.ok.0)) c.index.ensures h) c.inspect-at.ensures.count s) room

pub returns-clause-settles : goal.returns-clause-settles
returns-clause-settles c = on_ok_weaker c.place_few.result
    (λ s. λ r h few seen. settles_by c.args.board_view.program.now (frames_view c.args.board_view.instances.now.slots) (misses_first c.args.board_view.program.now (frames_view c.args.board_view.instances.now.slots) (cells_view c.args.board_view.store.now.cells)) _ c.args.self.now c.place_few.new.self (job_view c.job-job.result) r.job _ _ (flat_map (wanted_missed c.args.board_view.program.now (cells_view c.args.board_view.store.now.cells) (led_slot (frames_view c.args.board_view.instances.now.slots) c.inspect-at.result.1)) c.inspect-at.result.2.now)
    (job_placed c.args.self.now.rows.items c.args.place c.index.result.now c.job-job.result r (c.job-job.ensures ∙ ap (λ (i : ItemRecord). (row_view i).job) c.item.ensures) (omega (arith, c.args.self.now.rows.ok.0)) c.index.ensures h) seen (λ x. c.inspect-at.ensures.listed few x) c.inspect-at.ensures.kind c.inspect-at.ensures.priority s)
    c.place_few.ensures.settles

pub returns-clause-rest : goal.returns-clause-rest
returns-clause-rest c = λ r jobs h s. lists_behind (length c.inspect-at.result.2.now) (map (first_needs c.args.board_view.program.now) jobs) (reverse c.args.spare.now.items) (omega arith) (spare_for c.args.board_view.program.now (job_view c.job-job.result) r.job jobs (reverse c.args.spare.now.items) (length c.inspect-at.result.2.now) (job_placed c.args.self.now.rows.items c.args.place c.index.result.now c.job-job.result r (c.job-job.ensures ∙ ap (λ (i : ItemRecord). (row_view i).job) c.item.ensures) (omega (arith, c.args.self.now.rows.ok.0)) c.index.ensures h) c.inspect-at.ensures.count s)
