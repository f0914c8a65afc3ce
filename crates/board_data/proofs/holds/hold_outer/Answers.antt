use Rattle.std.proofs.Common.{◌*◌}
use Rattle.board_instances.specs.Names.{spot_slot}
use Rattle.board_instances.specs.View.{frames_view}
use Rattle.board_data.proofs.Held.{held_times, hold_step}
use Rattle.board_data.proofs.Rising.{holds_rise}
use Rattle.board_data.proofs.Steps.{last_step}
use Rattle.board_data.proofs.holds.hold_outer.Goals as goal

pub returns : goal.returns
returns c =
    let f = spot_slot (frames_view c.args.instances.now.slots) c.args.at in
    let e = last_step (hold_step f (λ h. c.args.times * h.reads) (λ h. c.args.times * h.writes)) c.args.outer.now c.loop-hold.hold-index c.loop-hold.store _ c.loop-hold-test.false c.loop-hold.invariant in
    record { added = held_times f c.args.times c.args.outer.now c.args.store.now c.loop-hold.store e; rising = holds_rise f c.args.times c.args.outer.now c.args.store.now c.loop-hold.store e }
