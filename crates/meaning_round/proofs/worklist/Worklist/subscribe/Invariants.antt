use Rattle.std.proofs.Common.{take}
use Rattle.meaning_round.proofs.Called.{AreCalled}
use Rattle.meaning_round.proofs.worklist.Worklist.subscribe.Given as goal

abbrev pub invariant-loop-event : goal.invariant-loop-event
invariant-loop-event l = AreCalled l.fn.self l.self l.number (take l.event-index l.events)
