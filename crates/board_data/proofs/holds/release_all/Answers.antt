use Rattle.board_instances.specs.Names.{spot_slot}
use Rattle.board_instances.specs.View.{frames_view}
use Rattle.data_store.specs.Data.{without_read}
use Rattle.board_data.proofs.Given.{give_step, gives_reads}
use Rattle.board_data.proofs.Rising.{reads_rise}
use Rattle.board_data.proofs.Steps.{last_step}
use Rattle.board_data.proofs.holds.release_all.Goals as goal

pub returns : goal.returns
returns c =
    let f = spot_slot (frames_view c.args.instances.now.slots) c.args.at in
    let e = last_step (give_step (λ x. x.reads) without_read f) c.args.reads.now c.loop-spot.spot-index c.loop-spot.store _ c.loop-spot-test.false c.loop-spot.invariant in
    record { given = gives_reads f c.args.reads.now c.args.store.now c.loop-spot.store e; rising = reads_rise f c.args.reads.now c.args.store.now c.loop-spot.store e }
