use Rattle.std.proofs.Common.{map, take}
use Rattle.meaning_round.specs.Hearing.{AreWoken}
use Rattle.meaning_round.specs.Reads.{at}
use Rattle.meaning_openings.proofs.closing.wake_readers.Given as goal

abbrev pub invariant-loop-place : goal.invariant-loop-place
invariant-loop-place l = AreWoken l.fn.worklist l.worklist (map at (take l.place-index l.closed))
