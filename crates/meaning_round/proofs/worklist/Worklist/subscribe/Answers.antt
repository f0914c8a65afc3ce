use Rattle.std.proofs.Common.{arith, ◌<◌, length}
use Rattle.std.proofs.lemmas.Grind.{common_steps}
use Rattle.meaning_round.specs.declared.worklist.WakeEvent.{WakeEvent}
use Rattle.meaning_round.proofs.Called.{next_called}
use Rattle.meaning_round.proofs.worklist.Worklist.subscribe.Goals as goal

pub loop-event-preserved : goal.loop-event-preserved
loop-event-preserved c =
    let within : c.loop-event.event-index < length c.args.events.now = grind (arith, common_steps) in
    let past : WakeEvent = record { place = record { instance = 0; node = 0 }; hash = 0 } in
    next_called c.args.self.now c.loop-event.self c.call.new.self c.args.number c.args.events.now c.loop-event.event-index past within c.in_ok-call.ensures.called
    c.call.ensures.fresh c.call.ensures.awake c.call.ensures.asleep c.loop-event.invariant
